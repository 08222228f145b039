use Rattle.std.proofs.Common.{rules}
use Rattle.station.proofs.closing.first_missing.Goals as goal

pub loop-actor-preserved : goal.loop-actor-preserved
loop-actor-preserved c = search rules
