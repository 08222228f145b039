use Rattle.std.proofs.Common.{cond}
use Rattle.std.specs.List.{sum_by}
use Rattle.distances.proofs.LeavingOut.{IsLeavingSome}
use Rattle.distances.proofs.elimination.leave_out_each.Given as goal

abbrev pub invariant-loop-node : goal.invariant-loop-node
invariant-loop-node l = IsLeavingSome l.n l.width l.fn.table l.left l.left_out.items l.table

abbrev pub decreases-loop-node : goal.decreases-loop-node
decreases-loop-node l = sum_by (λ is_left. cond is_left 1 0) l.left
