use Rattle.std.proofs.Common.{◌≤◌, take, slice_index}
use Rattle.std.specs.Prelude.{All}
use Rattle.cluster_tree.proofs.round.farthest.Given as goal

abbrev pub invariant-loop-member : goal.invariant-loop-member
invariant-loop-member l = All (λ v. slice_index l.row v ≤ l.far) (take l.member-index l.members)
