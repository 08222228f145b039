-- The tree of a cluster: the least weight inside the cluster from its leader to each member.
-- Key law: `ClusterTree::new` gives the tree of its cluster (`tree`).
use Rattle.std.specs.Prelude.{◌≡◌, ℕ, ◌≤◌, Bool, true, List, [], ◌∷◌, length, ◌==◌, if◌then◌else◌}
use Rattle.net_graph.specs.Walks.{IsLeastWeight}
use Rattle.net_graph.specs.Network.{Network}
use Rattle.node_set.specs.Ascending.{has, IsAscending}

-- a cluster's leader, its members in ascending order, and the weight of each member in the same
-- order
pub record WeighedCluster : Type 0 where
  pub leader : ℕ
  pub members : List ℕ
  pub weights : List ℕ

-- the weight that stands beside a node, 0 where the node isn't in the list
abbrev pub weight_beside : ℕ → List ℕ → List ℕ → ℕ
weight_beside v [] weights = 0
weight_beside v (x ∷ xs) [] = 0
weight_beside v (x ∷ xs) (w ∷ weights) = if v == x then w else weight_beside v xs weights

-- the weight of member v inside the cluster
abbrev pub inside_weight : WeighedCluster → ℕ → ℕ
inside_weight cluster v = weight_beside v cluster.members cluster.weights

-- the members of a cluster
abbrev pub within : List ℕ → ℕ → Bool
within members v = has v members

-- the tree of these members from this leader in the network
pub record IsTreeOf (network : Network) (members : List ℕ) (leader : ℕ) (cluster : WeighedCluster) :
    Type 0 where
  pub leader_is : cluster.leader ≡ leader
  pub members_are : cluster.members ≡ members
  pub each : (v : ℕ) → has v members ≡ true
      → IsLeastWeight network.edges (within members) leader v (inside_weight cluster v)

-- a member whose weight is this
pub record IsMemberWeight (cluster : WeighedCluster) (w : ℕ) : Type 0 where
  pub node : ℕ
  pub member : has node cluster.members ≡ true
  pub far : inside_weight cluster node ≡ w

-- the greatest weight of a member
pub record IsDepth (cluster : WeighedCluster) (w : ℕ) : Type 0 where
  pub greatest : (v : ℕ) → has v cluster.members ≡ true → inside_weight cluster v ≤ w
  pub attained : IsMemberWeight cluster w

-- what every tree keeps
pub record IsSoundTree (cluster : WeighedCluster) (depth : ℕ) : Type 0 where
  pub ascending : IsAscending cluster.members
  pub count : length cluster.weights ≡ length cluster.members
  pub leads : has cluster.leader cluster.members ≡ true
  pub depth_is : IsDepth cluster depth
