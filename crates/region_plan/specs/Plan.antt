-- A plan as contracts see it: plain data. For each level which clusters there are, which one is the
-- home of a node and which ones a node reads; for each cluster who leads it, who its members are,
-- and the least weight of a walk inside it from its leader to each of them. The functions below
-- read the data; outside of its nodes, levels and clusters they are 0 or empty, so that every fact
-- about a plan names its bounds.
-- Key laws: the accessors of `Plan` give these parts; `Plan::build` says which plan it is.
use Rattle.std.specs.Prelude.{◌≡◌, ℕ, ◌-◌, ◌<◌, List, [], length, slice_index, slice_index_or}
use Rattle.distances.specs.Table.{DistanceTable, dist}
use Rattle.cluster_tree.specs.Tree.{weight_beside}

-- a cluster of a level: its members ascending, and beside each the least weight inside the cluster
-- from its leader
pub record PlanCluster : Type 0 where
  pub leader : ℕ
  pub phase : ℕ
  pub members : List ℕ
  pub weights : List ℕ
  pub depth : ℕ

-- a level: its clusters by number, the number of each node's home, and the ascending numbers of the
-- clusters of each node
pub record Level : Type 0 where
  pub exponent : ℕ
  pub threshold : ℕ
  pub phases : ℕ
  pub clusters : List PlanCluster
  pub homes : List ℕ
  pub readers : List (List ℕ)

-- a plan: its trade-off; its reach, which says how many radii of its level a member may be from its
-- leader; the distances of its network; and its levels from 0 on
pub record PlanData : Type 0 where
  pub k : ℕ
  pub reach : ℕ
  pub distances : DistanceTable
  pub levels : List Level

-- what stands for a cluster that there isn't
abbrev pub no_cluster : PlanCluster
no_cluster = record { leader = 0; phase = 0; members = []; weights = []; depth = 0 }

-- what stands for a level that there isn't
abbrev pub no_level : Level
no_level = record {
  exponent = 0;
  threshold = 0;
  phases = 0;
  clusters = [];
  homes = [];
  readers =
      [];
}

-- how many nodes there are
abbrev pub nodes_of : PlanData → ℕ
nodes_of plan = plan.distances.nodes

-- how many levels there are
abbrev pub levels_of : PlanData → ℕ
levels_of plan = length plan.levels

-- the last level
abbrev pub top_of : PlanData → ℕ
top_of plan = length plan.levels - 1

-- the distance between two nodes
abbrev pub distance : PlanData → ℕ → ℕ → ℕ
distance plan u v = dist plan.distances u v

-- a level in a list
abbrev pub level_in : List Level → ℕ → Level
level_in levels i = slice_index_or levels i no_level

-- a level of a plan
abbrev pub level_at : PlanData → ℕ → Level
level_at plan i = level_in plan.levels i

-- a cluster in a list
abbrev pub cluster_in : List PlanCluster → ℕ → PlanCluster
cluster_in clusters c = slice_index_or clusters c no_cluster

-- a cluster of a level
abbrev pub cluster_at : PlanData → ℕ → ℕ → PlanCluster
cluster_at plan i c = cluster_in (level_at plan i).clusters c

-- the weight inside a cluster from its leader to a member
abbrev pub weight_in : List PlanCluster → ℕ → ℕ → ℕ
weight_in clusters c v = weight_beside v (cluster_in clusters c).members
    (cluster_in clusters c).weights

-- how many clusters a level has
abbrev pub clusters_of : PlanData → ℕ → ℕ
clusters_of plan i = length (level_at plan i).clusters

-- the members of a cluster
abbrev pub members_of : PlanData → ℕ → ℕ → List ℕ
members_of plan i c = (cluster_at plan i c).members

-- the home of a node at a level
abbrev pub home : PlanData → ℕ → ℕ → ℕ
home plan i v = slice_index (level_at plan i).homes v

-- the clusters that a node reads at a level
abbrev pub readers_in : Level → ℕ → List ℕ
readers_in level v = slice_index_or level.readers v []

-- the clusters of a level that a node reads
abbrev pub readers : PlanData → ℕ → ℕ → List ℕ
readers plan i v = readers_in (level_at plan i) v

-- who leads a cluster
abbrev pub leader : PlanData → ℕ → ℕ → ℕ
leader plan i c = (cluster_at plan i c).leader

-- the weight inside a cluster from its leader to a member
abbrev pub inside : PlanData → ℕ → ℕ → ℕ → ℕ
inside plan i c v = weight_beside v (cluster_at plan i c).members (cluster_at plan i c).weights

-- the weight at which a level is renewed, if it isn't with a higher one before
abbrev pub threshold : PlanData → ℕ → ℕ
threshold plan i = (level_at plan i).threshold

-- a level has the clusters of the one below it, and so their homes
pub record Repeats (plan : PlanData) (i : ℕ) : Type 0 where
  pub above : 0 < i
  pub clusters : (level_at plan i).clusters ≡ (level_at plan (i - 1)).clusters
  pub homes : (level_at plan i).homes ≡ (level_at plan (i - 1)).homes
