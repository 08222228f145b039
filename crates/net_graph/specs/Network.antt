-- What contracts see of a graph: the number of its nodes and a list of its edges.
-- `IsNetwork` holds of every graph; `SameJoins` and `SameWalks` tie a graph's edges to those that
-- it was made of.
-- Key laws: `all_allowed_is_everywhere`, `reached_both_ways`.
use Rattle.std.specs.Prelude.{◌≡◌, ◌≢◌, ℕ, ◌<◌, ◌≤◌, ◌↔◌, Bool, List, All}
use Rattle.net_graph.specs.declared.edge.Edge.{Edge}
use Rattle.net_graph.specs.declared.edge.TheConstants.{MAX_NODES, MAX_WEIGHT}
use Rattle.net_graph.specs.Walks.{IsLeastWeight, IsUnreached, IsReached, Joins, everywhere}

-- a network: its nodes are the numbers below `nodes`
pub record Network : Type 0 where
  pub nodes : ℕ
  pub edges : List Edge

-- the edge joins two of n nodes, and its weight is within the limits
pub record IsEdge (n : ℕ) (edge : Edge) : Type 0 where
  pub a_below : edge.a < n
  pub b_below : edge.b < n
  pub positive : 1 ≤ edge.weight
  pub light : edge.weight ≤ MAX_WEIGHT

-- the network has at least one node and no more than the limit, and each edge joins two of them
pub record IsInLimits (network : Network) : Type 0 where
  pub positive : 1 ≤ network.nodes
  pub few : network.nodes ≤ MAX_NODES
  pub edges : All (IsEdge network.nodes) network.edges

-- the network is within the limits, and a walk leads from node 0 to every node
pub record IsNetwork (network : Network) : Type 0 where
  pub limits : IsInLimits network
  pub connected : (v : ℕ) → v < network.nodes → IsReached network.edges everywhere 0 v

-- inside any set of nodes, the two lists of edges have the same least weights, and reach and leave
-- unreached the same nodes
pub record SameWalks (old new : List Edge) : Type 0 where
  pub least : (inside : ℕ → Bool) (u v w : ℕ) → IsLeastWeight old inside u v w
      ↔ IsLeastWeight new inside u v w
  pub reached : (inside : ℕ → Bool) (u v : ℕ) → IsReached old inside u v ↔ IsReached new inside u v
  pub unreached : (inside : ℕ → Bool) (u v : ℕ) → IsUnreached old inside u v
      ↔ IsUnreached new inside u v

-- the new edges join just the nodes that the old ones join, by the same weights; but an edge from a
-- node to itself counts for nothing
abbrev pub SameJoins : List Edge → List Edge → Type 0
SameJoins old new = (u v w : ℕ) → Joins new u v w ↔ ((u ≢ v) × Joins old u v w)

-- a graph of these nodes and edges
pub record IsGraphOf (n : ℕ) (edges : List Edge) (network : Network) : Type 0 where
  pub nodes : network.nodes ≡ n
  pub joins : SameJoins edges network.edges
  pub same : SameWalks edges network.edges
  pub sound : IsNetwork network

-- the least node that no walk from node 0 reaches
pub record IsFirstApart (n : ℕ) (edges : List Edge) (node : ℕ) : Type 0 where
  pub below : node < n
  pub apart : IsUnreached edges everywhere 0 node
  pub first : (v : ℕ) → v < node → IsReached edges everywhere 0 v
