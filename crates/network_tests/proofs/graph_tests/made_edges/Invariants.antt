use Rattle.std.specs.Prelude.{All}
use Rattle.net_graph.specs.Network.{IsEdge}
use Rattle.network_tests.proofs.graph_tests.made_edges.Given as goal

abbrev pub invariant-loop : goal.invariant-loop
invariant-loop l = All (IsEdge l.n) l.edges.items

abbrev pub invariant-loop-b : goal.invariant-loop-b
invariant-loop-b l = All (IsEdge l.n) l.edges.items
