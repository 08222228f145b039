use Rattle.std.specs.Prelude.{All}
use Rattle.net_graph.specs.Network.{IsEdge}
use Rattle.test_networks.proofs.networks.path_edges.Given as goal

abbrev pub invariant-loop-b : goal.invariant-loop-b
invariant-loop-b l = All (IsEdge l.n) l.edges.items
