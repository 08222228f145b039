-- What every plan keeps: its sizes, and that it is matched within its reach; how a level lies in
-- memory, with a weight beside each reader, and what levels share; and what the private functions
-- find of clusters.
-- Key law: `plan_is_sound` (every plan has these sizes, is matched and within its reach).
use Rattle.std.specs.Prelude.{◌≡◌, ℕ, true, ◌≤◌, ◌<◌, List, [], All, length, map, slice_index_or}
use Rattle.net_graph.specs.Network.{Network}
use Rattle.net_graph.specs.Starts.{AreRowsOf}
use Rattle.net_graph.specs.Walks.{IsReached}
use Rattle.node_set.specs.Ascending.{has}
use Rattle.coarse_cover.specs.declared.cover.Cluster.{Cluster}
use Rattle.cluster_tree.specs.Tree.{within}
use Rattle.distances.specs.Table.{DistanceTable, IsMetric}
use Rattle.region_plan.specs.Plan.{PlanCluster, PlanData, Level, nodes_of, levels_of, no_level, level_in, weight_in}
use Rattle.region_plan.specs.Regions.{clusters_with, readers_of}
use Rattle.region_plan.specs.Meanings.{IsLevelOf}
use Rattle.region_plan.specs.Matched.{IsMatched, IsWithinReach}
use Rattle.region_plan.specs.Measures.{degree_of}
use Rattle.region_plan.specs.declared.covering.Covering.{Covering}
use Rattle.region_plan.specs.declared.sharing.LevelHead.{LevelHead}

-- a level over n nodes
pub record IsSized (n : ℕ) (level : Level) : Type 0 where
  pub homes : length level.homes ≡ n
  pub readers : length level.readers ≡ n
  pub clusters : length level.clusters ≤ n
  pub exponent : level.exponent ≤ 30

-- the sizes of a plan
pub record IsKept (plan : PlanData) : Type 0 where
  pub some : 1 ≤ levels_of plan
  pub few : levels_of plan ≤ 31
  pub low : 1 ≤ plan.k
  pub high : plan.k ≤ 8
  pub near : plan.reach ≤ 17
  pub metric : IsMetric plan.distances
  pub levels : All (IsSized (nodes_of plan)) plan.levels

-- the weight inside each cluster with v from its leader to v
abbrev pub weights_beside : List PlanCluster → ℕ → List ℕ
weights_beside clusters v = map (λ c. weight_in clusters c v) (clusters_with clusters v)

-- the readers of n nodes lie in rows, and in rows beside them the weights inside them
pub record IsTable (n : ℕ) (clusters : List PlanCluster) (starts readers weights : List ℕ) :
    Type 0 where
  pub rows : AreRowsOf n (clusters_with clusters) starts readers
  pub beside : AreRowsOf n (weights_beside clusters) starts weights

-- the plan of these parts
abbrev pub plan_with : ℕ → ℕ → DistanceTable → List Level → PlanData
plan_with k reach distances levels =
    record {
      k = k;
      reach = reach;
      distances = distances;
      levels = levels;
    }

-- what every plan is, and its degree
pub record IsPlanKept (plan : PlanData) (d : ℕ) : Type 0 where
  pub kept : IsKept plan
  pub matched : IsMatched plan
  pub reached : IsWithinReach plan
  pub degree : d ≡ degree_of plan
  pub light : d ≤ 1024

-- what levels with equal balls share: their clusters, and each node's home and readers
pub record Shape : Type 0 where
  pub phases : ℕ
  pub clusters : List PlanCluster
  pub homes : List ℕ
  pub readers : List (List ℕ)

-- the shape of these parts
abbrev pub shape_with : ℕ → List PlanCluster → List ℕ → Shape
shape_with phases clusters homes =
    record {
      phases = phases;
      clusters = clusters;
      homes = homes;
      readers = readers_of (length homes) clusters;
    }

-- a level of this shape
abbrev pub level_of : ℕ → ℕ → Shape → Level
level_of exponent threshold shape =
    record {
      exponent = exponent;
      threshold = threshold;
      phases = shape.phases;
      clusters = shape.clusters;
      homes = shape.homes;
      readers = shape.readers;
    }

-- the shape of a level
abbrev pub shape_of : Level → Shape
shape_of level =
    record {
      phases = level.phases;
      clusters = level.clusters;
      homes = level.homes;
      readers = level.readers;
    }

-- the clusters that a node reads
abbrev pub readers_for : Shape → ℕ → List ℕ
readers_for shape v = slice_index_or shape.readers v []

-- a shape by its place
abbrev pub shape_in : List Shape → ℕ → Shape
shape_in shapes i = slice_index_or shapes i (shape_of no_level)

-- the levels with these heads, over the shapes that they share
abbrev pub levels_over : List Shape → List LevelHead → List Level
levels_over shapes heads =
    map (λ h. level_of h.exponent h.threshold (shape_in shapes h.table)) heads

-- the cluster is over the network's nodes, and walks inside it lead from the centre that leads it
-- to each member
pub record IsSpanned (network : Network) (cluster : Cluster) : Type 0 where
  pub room : cluster.members.room ≡ network.nodes
  pub leads : has cluster.first cluster.members.members ≡ true
  pub reached : (v : ℕ) → has v cluster.members.members ≡ true
      → IsReached network.edges (within cluster.members.members) cluster.first v

-- the same level with another exponent and threshold
abbrev pub level_with : ℕ → ℕ → Level → Level
level_with exponent threshold level = level_of exponent threshold (shape_of level)

-- the first so many levels of the plan of a network over this covering
pub record AreLevelsOf (network : Network) (table : DistanceTable) (covering : Covering)
    (count : ℕ) (levels : List Level) : Type 0 where
  pub count_is : length levels ≡ count
  pub each : (j : ℕ) → j < count → IsLevelOf network table covering j (level_in levels j)
  pub sized : All (IsSized table.nodes) levels
