use Rattle.std.proofs.Common.{length}
use Rattle.distances.proofs.TakingBack.{IsFilling}
use Rattle.distances.proofs.elimination.take_back_each.Given as goal

abbrev pub invariant-loop-last : goal.invariant-loop-last
invariant-loop-last l = IsFilling l.n l.width l.fn.left_out.items l.left_out.items l.back.items l.table

abbrev pub decreases-loop-last : goal.decreases-loop-last
decreases-loop-last l = length l.left_out.items
