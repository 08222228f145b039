use Rattle.std.proofs.Common.{rules}
use Rattle.whole_powers.proofs.powers.power.Goals as goal

pub returns : goal.returns
returns c = search rules
