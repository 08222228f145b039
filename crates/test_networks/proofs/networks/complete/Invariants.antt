use Rattle.std.specs.Prelude.{All}
use Rattle.net_graph.specs.Network.{IsEdge}
use Rattle.test_networks.proofs.networks.complete.Given as goal

abbrev pub invariant-rows : goal.invariant-rows
invariant-rows l = All (IsEdge l.n) l.edges.items

abbrev pub invariant-row : goal.invariant-row
invariant-row l = All (IsEdge l.n) l.edges.items
