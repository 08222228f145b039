-- The weights inside a cluster, written after others in one flat list.
-- Key law: `inside_weights`, by its clauses `written` and `kept`.
use Rattle.std.specs.Prelude.{◌≡◌, ◌≢◌, ℕ, suc, ◌+◌, ◌<◌, ◌≤◌, true, List, ◌++◌, length, Contains, nat_lt, slice_index}
use Rattle.net_graph.specs.declared.neighbours.Arc.{Arc}
use Rattle.net_graph.specs.Layout.{make_arc}
use Rattle.net_graph.specs.Walks.{Joins, IsLeastWeight}
use Rattle.net_graph.specs.Network.{Network}
use Rattle.node_set.specs.Ascending.{has, sift}
use Rattle.cluster_tree.specs.Tree.{WeighedCluster, IsTreeOf, IsSoundTree, within}

-- the cluster of these members with these weights
abbrev pub make_cluster : ℕ → List ℕ → List ℕ → WeighedCluster
make_cluster leader members weights =
    record { leader = leader; members = members; weights = weights }

-- the old weights stand as they were, before any new ones
abbrev pub StandBefore : List ℕ → List ℕ → Type 0
StandBefore old new = (more : List ℕ) × (new ≡ old ++ more)

-- the weights inside the cluster from the leader to each member, in the order of the members, stand
-- after the old ones
pub record IsAppended (network : Network) (members : List ℕ) (leader : ℕ) (old new : List ℕ) : Type
    0 where
  pub weights : List ℕ
  pub appended : new ≡ old ++ weights
  pub count : length weights ≡ length members
  pub tree : IsTreeOf network members leader (make_cluster leader members weights)

-- the weights inside the cluster stand after the old ones, and the greatest of them is the depth
pub record AreWeightsWritten (network : Network) (members : List ℕ) (leader : ℕ) (old new : List ℕ)
    (depth : ℕ) : Type 0 where
  pub weights : List ℕ
  pub appended : new ≡ old ++ weights
  pub tree : IsTreeOf network members leader (make_cluster leader members weights)
  pub sound : IsSoundTree (make_cluster leader members weights) depth

-- the least weights inside, from the leader to each member, are the distances that the row has
abbrev pub KeepDistances : Network → List ℕ → ℕ → List ℕ → Type 0
KeepDistances network members leader row = (v : ℕ) → has v members ≡ true
    → IsLeastWeight network.edges (within members) leader v (slice_index row v)

-- the members are all nodes that are no farther than one of them, by a row of distances
abbrev pub IsRound : List ℕ → List ℕ → Type 0
IsRound members row = (u v : ℕ) → u < length row → has v members ≡ true
    → slice_index row u ≤ slice_index row v → has u members ≡ true

-- how many nodes are so far or nearer, by a row of distances
abbrev pub count_within : List ℕ → ℕ → ℕ
count_within row far =
    length (sift (λ v. nat_lt (slice_index row v) (suc far)) 0 (length row))

-- an arc leads to a member that is nearer by just the arc's weight; the row has the distances from
-- the leader
pub record HasNearer (members row : List ℕ) (arcs : List Arc) (far : ℕ) : Type 0 where
  pub node : ℕ
  pub weight : ℕ
  pub arc : Contains arcs (make_arc node weight)
  pub member : has node members ≡ true
  pub sum : far ≡ slice_index row node + weight

-- an edge joins v to a member that is nearer to the leader by just the edge's weight
pub record ComesBy (network : Network) (members row : List ℕ) (v : ℕ) : Type 0 where
  pub node : ℕ
  pub weight : ℕ
  pub joined : Joins network.edges v node weight
  pub positive : 1 ≤ weight
  pub member : has node members ≡ true
  pub sum : slice_index row v ≡ slice_index row node + weight

-- the listed members but the leader are joined to nearer members
abbrev pub AreJoined : Network → List ℕ → List ℕ → ℕ → List ℕ → Type 0
AreJoined network members listed leader row =
    (v : ℕ) → Contains listed v → v ≢ leader → ComesBy network members row v
