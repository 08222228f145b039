-- Clusters in flat lists: the members of one after those of another, with a weight beside each.
-- Only the private functions of this crate speak of them.
-- Key law: `Clusters::of_cover` lays the clusters of a cover (`AreLaid`, `AreClustersOf`).
use Rattle.std.specs.Prelude.{◌≡◌, ℕ, ◌≤◌, List, [], ◌∷◌, ◌++◌, All, length, map, slice_range}
use Rattle.net_graph.specs.Network.{Network}
use Rattle.node_set.specs.Ascending.{IsAscending}
use Rattle.coarse_cover.specs.declared.cover.Cluster.{Cluster}
use Rattle.region_plan.specs.Plan.{PlanCluster}
use Rattle.region_plan.specs.Meanings.{IsClusterOf}
use Rattle.region_plan.specs.declared.clusters.ClusterHead.{ClusterHead}
use Rattle.region_plan.specs.declared.clusters.ClusterLists.{ClusterLists}

-- the cluster of a head
abbrev pub cluster_under : List ℕ → List ℕ → ClusterHead → PlanCluster
cluster_under nodes weights head =
    record {
      leader = head.leader;
      phase = head.phase;
      members = slice_range nodes head.start head.end;
      weights = slice_range weights head.start head.end;
      depth = head.depth;
    }

-- the clusters of these heads
abbrev pub clusters_over : List ℕ → List ℕ → List ClusterHead → List PlanCluster
clusters_over nodes weights heads = map (cluster_under nodes weights) heads

-- the clusters of the lists
abbrev pub clusters_of_lists : ClusterLists → List PlanCluster
clusters_of_lists lists = clusters_over lists.nodes.items lists.weights.items lists.heads.items

-- the members of a head are within the list, and ascend
pub record IsLaid (nodes : List ℕ) (head : ClusterHead) : Type 0 where
  pub order : head.start ≤ head.end
  pub within : head.end ≤ length nodes
  pub ascending : IsAscending (slice_range nodes head.start head.end)

-- so are those of each head, and there are as many weights as members
pub record AreLaid (lists : ClusterLists) : Type 0 where
  pub count : length lists.weights.items ≡ length lists.nodes.items
  pub each : All (IsLaid lists.nodes.items) lists.heads.items

-- this cluster of a cover, with the least weights inside it, stands after the others
pub record IsPushed (network : Network) (made : Cluster) (old new : ClusterLists) : Type 0 where
  pub cluster : PlanCluster
  pub is : IsClusterOf network made cluster
  pub pushed : clusters_of_lists new ≡ clusters_of_lists old ++ cluster ∷ []
