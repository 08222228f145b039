use Rattle.std.proofs.Common.{◌≡◌, ◌++◌, map, take, slice_index}
use Rattle.cluster_tree.proofs.inside.push_distances.Given as goal

abbrev pub invariant-loop-member : goal.invariant-loop-member
invariant-loop-member l = l.weights.items
    ≡ l.initial.weights.items ++ map (slice_index l.row) (take l.member-index l.members)
