-- A tree of least walks: the least weight of a walk from the root to each node inside a set, and
-- each node's parent.
-- Key laws: `Graph::weights_from` and `Graph::tree_from` give the least weights
-- (`AreLeastWeights`), and the tree the parents (`AreParents`).
use Rattle.std.specs.Prelude.{◌≡◌, ◌≢◌, ℕ, ◌+◌, ◌-◌, ◌*◌, ◌<◌, ◌≤◌, Bool, List, Option, None, Some, length, slice_index, slice_index_or}
use Rattle.net_graph.specs.declared.edge.Edge.{Edge}
use Rattle.net_graph.specs.declared.edge.TheConstants.{MAX_WEIGHT}
use Rattle.net_graph.specs.Walks.{Joins, IsLeastWeight, IsUnreached, everywhere}
use Rattle.net_graph.specs.Network.{Network}

-- what the list holds at a node, none past its end
abbrev pub at_node : List (Option ℕ) → ℕ → Option ℕ
at_node xs v = slice_index_or xs v None

-- for each node the least weight of a walk from the root inside, none exactly where there is no
-- walk
pub record AreLeastWeights (network : Network) (inside : ℕ → Bool) (root : ℕ)
    (weights : List (Option ℕ)) : Type 0 where
  pub count : length weights ≡ network.nodes
  pub least : (v w : ℕ) → v < network.nodes → at_node weights v ≡ Some w
      → IsLeastWeight network.edges inside root v w
  pub unreached : (v : ℕ) → v < network.nodes → at_node weights v ≡ None
      → IsUnreached network.edges inside root v
  pub bounded : (v w : ℕ) → v < network.nodes → at_node weights v ≡ Some w
      → w ≤ (network.nodes - 1) * MAX_WEIGHT

-- for each node the least weight of a walk from the root through any nodes
pub record AreDistancesFrom (network : Network) (root : ℕ) (row : List ℕ) : Type 0 where
  pub count : length row ≡ network.nodes
  pub each : (v : ℕ) → v < network.nodes
      → IsLeastWeight network.edges everywhere root v (slice_index row v)

-- the least weight of an edge that joins u and v
pub record IsLeastJoin (edges : List Edge) (u v w : ℕ) : Type 0 where
  pub joined : Joins edges u v w
  pub least : (x : ℕ) → Joins edges u v x → w ≤ x

-- p is a neighbour of v, and the weight of v is that of p and of the edge between them
pub record LeadsTo (edges : List Edge) (weights : List (Option ℕ)) (p v : ℕ) : Type 0 where
  pub before : ℕ
  pub edge : ℕ
  pub comes_from : at_node weights p ≡ Some before
  pub joined : IsLeastJoin edges p v edge
  pub sum : at_node weights v ≡ Some (before + edge)

-- p is the least node that leads to v
pub record IsParent (edges : List Edge) (weights : List (Option ℕ)) (v p : ℕ) : Type 0 where
  pub leads : LeadsTo edges weights p v
  pub first : (q : ℕ) → q < p → LeadsTo edges weights q v → ⊥

-- each node's parent: none at the root and where there is no weight, else the least node that leads
-- to it
pub record AreParents (network : Network) (root : ℕ) (weights parents : List (Option ℕ)) : Type 0
  where
    pub count : length parents ≡ network.nodes
    pub some : (v p : ℕ) → v < network.nodes → at_node parents v ≡ Some p → (v ≢ root)
        × (p < network.nodes) × IsParent network.edges weights v p
    pub none : (v w : ℕ) → v < network.nodes → at_node parents v ≡ None → at_node weights v ≡ Some w
        → v ≡ root
