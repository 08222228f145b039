use Rattle.std.proofs.Common.{◌≡◌, true}
use Rattle.net_graph.specs.Walks.{among}
use Rattle.distances.specs.Lowering.{AreNearBelow}
use Rattle.distances.proofs.near_nodes.near_of.Given as goal

abbrev pub invariant-loop-node : goal.invariant-loop-node
invariant-loop-node l = AreNearBelow l.node l.row (λ x. among l.left x ≡ true) l.near.items
