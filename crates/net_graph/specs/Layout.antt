-- How a network lies in memory: each node's arcs stand in one row of a flat array, and `starts`
-- says where each row begins. These definitions serve the private type `Neighbours`; clauses of
-- `Graph` see a `Network` alone.
-- Key law: `Graph::arcs_of` gives the arcs of a node (`AreArcsOf`).
use Rattle.std.specs.Prelude.{◌≡◌, ℕ, zero, suc, ◌+◌, ◌<◌, ◌≤◌, List, [], ◌++◌, length, map, Contains, All, slice_index_or, slice_range}
use Rattle.net_graph.specs.declared.edge.Edge.{Edge}
use Rattle.net_graph.specs.declared.edge.TheConstants.{MAX_NODES, MAX_WEIGHT}
use Rattle.net_graph.specs.declared.neighbours.Arc.{Arc}
use Rattle.net_graph.specs.Walks.{Joins, make_edge}

-- the arc to this node with this weight
abbrev pub make_arc : ℕ → ℕ → Arc
make_arc v w = record { target = v; weight = w }

-- the arc seen as an edge from u
abbrev pub edge_from : ℕ → Arc → Edge
edge_from u arc = make_edge u arc.target arc.weight

-- the arcs of node u
abbrev pub row : List ℕ → List Arc → ℕ → List Arc
row starts arcs u = slice_range arcs (slice_index_or starts u 0) (slice_index_or starts (u + 1) 0)

-- the edges from the first n nodes
unfoldable pub edges_from : List ℕ → List Arc → ℕ → List Edge
edges_from starts arcs zero = []
edges_from starts arcs (suc u) = edges_from starts arcs u ++ map (edge_from u) (row starts arcs u)

-- the arc leads to one of n nodes, with a weight within the limits
pub record IsArc (n : ℕ) (arc : Arc) : Type 0 where
  pub below : arc.target < n
  pub positive : 1 ≤ arc.weight
  pub light : arc.weight ≤ MAX_WEIGHT

-- the rows follow one another in the array, and each arc has its counterpart the other way
pub record IsLaidOut (n : ℕ) (starts : List ℕ) (arcs : List Arc) : Type 0 where
  pub positive : 1 ≤ n
  pub few : n ≤ MAX_NODES
  pub count : length starts ≡ n + 1
  pub ordered : (u : ℕ) → u < n → slice_index_or starts u 0 ≤ slice_index_or starts (u + 1) 0
  pub within : (u : ℕ) → u < n → slice_index_or starts (u + 1) 0 ≤ length arcs
  pub limits : All (IsArc n) arcs
  pub turned : (u v w : ℕ) → u < n → Contains (row starts arcs u) (make_arc v w)
      → Contains (row starts arcs v) (make_arc u w)

-- the arcs are those that lead from node u
pub record AreArcsOf (n : ℕ) (edges : List Edge) (u : ℕ) (arcs : List Arc) : Type 0 where
  pub sound : (v w : ℕ) → Contains arcs (make_arc v w) → Joins edges u v w
  pub whole : (v w : ℕ) → Joins edges u v w → Contains arcs (make_arc v w)
  pub limits : All (IsArc n) arcs
