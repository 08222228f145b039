use Rattle.std.proofs.Common.{arith}
use Rattle.handset.proofs.Trails.{flag-count, flags-none}
use Rattle.handset.proofs.trail.clear.Goals as goal

pub returns : goal.returns
returns c = grind (arith, flags-none, flag-count)
