-- What the private functions on parents find.
-- Key law: `parents_in` finds the least neighbours that make up the weights (`AreLeastNeighbours`).
use Rattle.std.specs.Prelude.{◌≡◌, ℕ, ◌+◌, ◌<◌, List, Option, Some, length, Contains}
use Rattle.net_graph.specs.declared.edge.Edge.{Edge}
use Rattle.net_graph.specs.declared.neighbours.Arc.{Arc}
use Rattle.net_graph.specs.Walks.{Joins}
use Rattle.net_graph.specs.Trees.{at_node}
use Rattle.net_graph.specs.Layout.{make_arc}
use Rattle.net_graph.specs.Least.{IsAtMost}

-- the weight of p and an edge of weight c make up this weight
pub record MakesUp (weights : List (Option ℕ)) (p c : ℕ) (weight : Option ℕ) : Type 0 where
  pub before : ℕ
  pub comes_from : at_node weights p ≡ Some before
  pub sum : weight ≡ Some (before + c)

-- the least target of an arc that makes up the weight
pub record IsLeastTarget (arcs : List Arc) (weights : List (Option ℕ))
    (weight least : Option ℕ) : Type 0 where
  pub cause : (p : ℕ) → least ≡ Some p → (c : ℕ) × Contains arcs (make_arc p c)
      × MakesUp weights p c weight
  pub whole : (q c : ℕ) → Contains arcs (make_arc q c) → MakesUp weights q c weight
      → IsAtMost least q

-- the least neighbour whose weight and edge make up the weight of v
pub record IsLeastNeighbour (edges : List Edge) (weights : List (Option ℕ)) (v : ℕ)
    (least : Option ℕ) : Type 0 where
  pub cause : (p : ℕ) → least ≡ Some p → (c : ℕ) × Joins edges v p c
      × MakesUp weights p c (at_node weights v)
  pub whole : (q c : ℕ) → Joins edges v q c → MakesUp weights q c (at_node weights v)
      → IsAtMost least q

-- the least neighbours of the first n nodes
pub record AreLeastNeighbours (edges : List Edge) (weights : List (Option ℕ)) (n : ℕ)
    (parents : List (Option ℕ)) : Type 0 where
  pub count : length parents ≡ n
  pub each : (v : ℕ) → v < n → IsLeastNeighbour edges weights v (at_node parents v)
