use Rattle.std.proofs.Common.{arith}
use Rattle.handset.proofs.Trails.{flag-count, flags-none}
use Rattle.handset.proofs.trail.trail_at.Goals as goal

pub mark-requires : goal.mark-requires
mark-requires c = grind (arith, flag-count)

pub returns : goal.returns
returns c = grind (arith, flags-none)
