-- A square of four nodes, 0 - 1 - 3 and 0 - 2 - 3 with weights of 1, in which two ways lead from
-- node 0 to node 3; and two nodes that two edges join. Key laws: `worked_parents`, `wrong_parents`.
use Rattle.std.specs.Prelude.{ℕ, List, [], ◌∷◌, Option, Some}
use Rattle.net_graph.specs.Network.{Network}
use Rattle.net_graph.specs.Walks.{make_edge}

-- the square as a network
abbrev pub square : Network
square = record {
  nodes = 4;
  edges = make_edge 0 1 1 ∷ make_edge 0 2 1 ∷ make_edge 3 1 1 ∷ make_edge 2 3 1 ∷ [];
}

-- the least weights from node 0
abbrev pub square_weights : List (Option ℕ)
square_weights = Some 0 ∷ Some 1 ∷ Some 1 ∷ Some 2 ∷ []

-- two nodes, joined by edges of the weights 1 and 2
abbrev pub joined_twice : Network
joined_twice = record { nodes = 2; edges = make_edge 0 1 1 ∷ make_edge 0 1 2 ∷ [] }
