use Rattle.std.proofs.Common.{◌≡◌, ◌≤◌, suc, length, slice_index}
use Rattle.std.specs.Prelude.{nat_lt}
use Rattle.node_set.specs.Ascending.{sift}
use Rattle.cluster_tree.proofs.round.count_within.Given as goal

abbrev pub invariant-loop-distance : goal.invariant-loop-distance
invariant-loop-distance l = (l.count ≤ l.distance-index)
    × (l.count ≡ length (sift (λ v. nat_lt (slice_index l.row v) (suc l.far)) 0 l.distance-index))
