use Rattle.std.specs.Prelude.{All}
use Rattle.net_graph.specs.Network.{IsEdge}
use Rattle.network_tests.proofs.graph_tests.edges_of.Given as goal

abbrev pub invariant-edges : goal.invariant-edges
invariant-edges l = All (IsEdge l.n) l.edges.items
