use Rattle.std.proofs.Common.{take}
use Rattle.cluster_tree.specs.Inside.{AreJoined}
use Rattle.cluster_tree.proofs.inside.are_joined.Given as goal

abbrev pub invariant-loop-member : goal.invariant-loop-member
invariant-loop-member l = AreJoined l.graph l.cluster.members (take l.member-index l.members) l.leader l.row
