-- What the plan of a network is, in words of walks: its distances and the weights inside its
-- clusters are those of least walks, its top level is the least that reaches the diameter, and its
-- clusters are those of its covering.
-- Key laws: `covered_plan_means` and `plan_means` (the plan of a network is so), and
-- `covered_plan_is_one` (no other is).
use Rattle.std.specs.Prelude.{◌≡◌, ℕ, ◌^◌, ◌<◌, ◌≤◌, List, [], ◌∷◌, length, map}
use Rattle.net_graph.specs.Network.{Network, IsNetwork}
use Rattle.node_set.specs.Balls.{centres, home_of}
use Rattle.distances.specs.Table.{DistanceTable, AreDistancesOf, IsDiameter}
use Rattle.coarse_cover.specs.Coarsening.{all_clusters}
use Rattle.coarse_cover.specs.Covers.{cluster_list}
use Rattle.coarse_cover.specs.declared.cover.Cluster.{Cluster}
use Rattle.cluster_tree.specs.Tree.{WeighedCluster, IsTreeOf, IsDepth}
use Rattle.region_plan.specs.Coverings.{reach_of, trade_off_of}
use Rattle.region_plan.specs.Plan.{PlanCluster, Level, PlanData, level_at, levels_of, top_of}
use Rattle.region_plan.specs.Regions.{covered_plan, plan_of, readers_of, regions_of, threshold_of}
use Rattle.region_plan.specs.declared.covering.Covering.{Covering}
use Rattle.region_plan.specs.declared.covering.Covering.TheVariants.{Phased}

-- the top level: the least whose power of two reaches the diameter
pub record IsTop (table : DistanceTable) (top : ℕ) : Type 0 where
  pub diameter : ℕ
  pub greatest : IsDiameter table diameter
  pub enough : diameter ≤ 2 ^ top
  pub least : (i : ℕ) → i < top → 2 ^ i < diameter

-- a cluster of a plan as its tree sees it
abbrev pub as_tree : PlanCluster → WeighedCluster
as_tree cluster = record {
  leader = cluster.leader;
  members = cluster.members;
  weights =
      cluster.weights;
}

-- a cluster of a plan is this cluster of a cover, with the least weights inside it
pub record IsClusterOf (network : Network) (made : Cluster) (cluster : PlanCluster) : Type 0 where
  pub leader : cluster.leader ≡ made.first
  pub phase : cluster.phase ≡ made.phase
  pub members : cluster.members ≡ made.members.members
  pub tree : IsTreeOf network made.members.members made.first (as_tree cluster)
  pub count : length cluster.weights ≡ length cluster.members
  pub depth : IsDepth (as_tree cluster) cluster.depth

-- the clusters of a plan are those of a cover, one for one
abbrev pub AreClustersOf : Network → List Cluster → List PlanCluster → Type 0
AreClustersOf network [] [] = Unit {0}
AreClustersOf network [] (d ∷ ds) = ⊥
AreClustersOf network (c ∷ cs) [] = ⊥
AreClustersOf network (c ∷ cs) (d ∷ ds) = IsClusterOf network c d × AreClustersOf network cs ds

-- level i of the plan of a network over this covering
pub record IsLevelOf (network : Network) (table : DistanceTable) (covering : Covering) (i : ℕ)
    (level : Level) : Type 0
  where
    pub exponent : level.exponent ≡ i
    pub threshold : level.threshold ≡ threshold_of i
    pub phases : level.phases ≡ length (regions_of table covering i)
    pub clusters : AreClustersOf network
        (cluster_list table.nodes 0 (regions_of table covering i)) level.clusters
    pub homes : level.homes ≡ map (home_of (all_clusters (regions_of table covering i)))
        (centres table.nodes)
    pub readers : level.readers ≡ readers_of table.nodes level.clusters

-- a plan of a network over this covering
pub record IsCoveredPlan (covering : Covering) (network : Network) (plan : PlanData) : Type 0 where
  pub distances : AreDistancesOf network plan.distances
  pub trade_off : plan.k ≡ trade_off_of covering
  pub reach : plan.reach ≡ reach_of covering
  pub some : 1 ≤ levels_of plan
  pub top : IsTop plan.distances (top_of plan)
  pub each : (i : ℕ) → i < levels_of plan
      → IsLevelOf network plan.distances covering i (level_at plan i)

-- a plan of a network with the trade-off k
abbrev pub IsPlanOf : Network → ℕ → PlanData → Type 0
IsPlanOf network k plan = IsCoveredPlan (Phased k) network plan

-- the plan of a network over a covering is one
abbrev pub CoveredPlansMean : Type 0
CoveredPlansMean = (covering : Covering) (network : Network) → IsNetwork network
    → 1 ≤ trade_off_of covering → IsCoveredPlan covering network (covered_plan covering network)

-- so is the plan of a network
abbrev pub PlansMean : Type 0
PlansMean = (network : Network) (k : ℕ) → IsNetwork network → 1 ≤ k
    → IsPlanOf network k (plan_of network k)

-- what is a plan of a network over a covering is the plan
abbrev pub CoveredPlansAreOne : Type 0
CoveredPlansAreOne = (covering : Covering) (network : Network) (plan : PlanData) → IsNetwork network
    → 1 ≤ trade_off_of covering → IsCoveredPlan covering network plan
    → plan ≡ covered_plan covering network
