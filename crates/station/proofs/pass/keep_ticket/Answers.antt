use Rattle.std.proofs.Common.{rules}
use Rattle.station.proofs.pass.keep_ticket.Goals as goal

pub returns-clause-seen : goal.returns-clause-seen
returns-clause-seen c = search rules
