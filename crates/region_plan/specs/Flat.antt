-- The flat plan of a network: one level, with one cluster of all nodes that node 0 leads.
-- Key laws: `Plan::flat` gives it, `flat_means` (its parts), and `flat_is_one` of plan_laws (there
-- is one).
use Rattle.std.specs.Prelude.{◌≡◌, List, [], ◌∷◌, length, map}
use Rattle.net_graph.specs.Network.{Network}
use Rattle.node_set.specs.Balls.{centres}
use Rattle.distances.specs.Table.{DistanceTable, AreDistancesOf, dist}
use Rattle.cluster_tree.specs.Tree.{IsDepth}
use Rattle.region_plan.specs.Meanings.{IsTop, as_tree}
use Rattle.region_plan.specs.Plan.{PlanCluster, Level, PlanData, cluster_in, level_at, levels_of}

-- the cluster of all nodes, whose weights are the distances from node 0
pub record IsWhole (table : DistanceTable) (cluster : PlanCluster) : Type 0 where
  pub leader : cluster.leader ≡ 0
  pub phase : cluster.phase ≡ 0
  pub members : cluster.members ≡ centres table.nodes
  pub weights : cluster.weights ≡ map (λ v. dist table 0 v) (centres table.nodes)
  pub depth : IsDepth (as_tree cluster) cluster.depth

-- the cluster of all nodes, and no other
pub record IsWholeAlone (table : DistanceTable) (clusters : List PlanCluster) : Type 0 where
  pub cluster : PlanCluster
  pub alone : clusters ≡ cluster ∷ []
  pub whole : IsWhole table cluster

-- the level of one cluster of all nodes
pub record IsFlatLevel (table : DistanceTable) (level : Level) : Type 0 where
  pub exponent : IsTop table level.exponent
  pub threshold : level.threshold ≡ 1
  pub phases : level.phases ≡ 1
  pub one : length level.clusters ≡ 1
  pub whole : IsWhole table (cluster_in level.clusters 0)
  pub homes : level.homes ≡ map (λ v. 0) (centres table.nodes)
  pub readers : level.readers ≡ map (λ v. 0 ∷ []) (centres table.nodes)

-- the flat plan of a network
pub record IsFlat (network : Network) (plan : PlanData) : Type 0 where
  pub distances : AreDistancesOf network plan.distances
  pub trade_off : plan.k ≡ 1
  pub reach : plan.reach ≡ 1
  pub one : levels_of plan ≡ 1
  pub level : IsFlatLevel plan.distances (level_at plan 0)
