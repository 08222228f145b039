-- The plan of a network over a covering, level by level: level i covers the balls of radius 2^i,
-- and each cluster has the least weights inside it from its leader.
-- Key laws: `Plan::build` gives the plan of its network and k, `Plan::build_mean` the one over mean
-- covers; in words of walks, `covered_plan_means` says what these plans are, and
-- `covered_plan_is_bounding` what bounds the finds over them.
use Rattle.std.specs.Prelude.{ℕ, zero, suc, ◌+◌, ◌^◌, List, length, map, nat_le}
use Rattle.net_graph.specs.LeastWeights.{least_weight}
use Rattle.net_graph.specs.Network.{Network}
use Rattle.node_set.specs.Ascending.{has, sift}
use Rattle.node_set.specs.Balls.{GrownCluster, centres, home_of, least}
use Rattle.distances.specs.Table.{DistanceTable, ball_of, table_of}
use Rattle.coarse_cover.specs.Coarsening.{all_clusters}
use Rattle.coarse_cover.specs.Covers.{cluster_list}
use Rattle.coarse_cover.specs.declared.cover.Cluster.{Cluster}
use Rattle.cluster_tree.specs.Tree.{within}
use Rattle.region_plan.specs.Coverings.{covering_of, reach_of, trade_off_of}
use Rattle.region_plan.specs.Measures.{most}
use Rattle.region_plan.specs.Plan.{PlanCluster, Level, PlanData, cluster_in}
use Rattle.region_plan.specs.declared.covering.Covering.{Covering}
use Rattle.region_plan.specs.declared.covering.Covering.TheVariants.{Phased, Mean}

-- the threshold of a level
abbrev pub threshold_of : ℕ → ℕ
threshold_of zero = 1
threshold_of (suc i) = 2 ^ i

-- the balls of a level, by their centres
abbrev pub balls_of : DistanceTable → ℕ → List (List ℕ)
balls_of table i = map (λ v. ball_of table v (2 ^ i)) (centres table.nodes)

-- the clusters of a level, phase by phase
abbrev pub regions_of : DistanceTable → Covering → ℕ → List (List GrownCluster)
regions_of table covering i = covering_of covering (balls_of table i)

-- the ascending numbers of the clusters that contain v
abbrev pub clusters_with : List PlanCluster → ℕ → List ℕ
clusters_with clusters v = sift (λ c. has v (cluster_in clusters c).members) 0 (length clusters)

-- for each of n nodes the clusters that contain it
abbrev pub readers_of : ℕ → List PlanCluster → List (List ℕ)
readers_of n clusters = map (clusters_with clusters) (centres n)

-- the least weights inside a cluster of a cover, from the node that leads it to each of its nodes
abbrev pub weights_in : Network → Cluster → List ℕ
weights_in network made =
    map (least_weight network (within made.members.members) made.first) made.members.members

-- a cluster of a cover as a cluster of the plan
abbrev pub weighed : Network → Cluster → PlanCluster
weighed network made =
    record {
      leader = made.first;
      phase = made.phase;
      members = made.members.members;
      weights = weights_in network made;
      depth = most (weights_in network made);
    }

-- a level with these clusters, from these phases of the covering
abbrev pub level_with_clusters : ℕ → ℕ → List (List GrownCluster) → List PlanCluster → Level
level_with_clusters n i regions clusters =
    record {
      exponent = i;
      threshold = threshold_of i;
      phases = length regions;
      clusters = clusters;
      homes = map (home_of (all_clusters regions)) (centres n);
      readers = readers_of n clusters;
    }

-- level i
abbrev pub level_for : Network → DistanceTable → Covering → ℕ → Level
level_for network table covering i =
    level_with_clusters table.nodes i (regions_of table covering i)
    (map (weighed network) (cluster_list table.nodes 0 (regions_of table covering i)))

-- the top level: the least whose power of two reaches a diameter
abbrev pub top_for : ℕ → ℕ
top_for diameter = least (λ i. nat_le diameter (2 ^ i)) diameter

-- the plan over this covering, of a network with these distances
abbrev pub plan_over : Network → DistanceTable → Covering → PlanData
plan_over network table covering =
    record {
      k = trade_off_of covering;
      reach = reach_of covering;
      distances = table;
      levels = map (level_for network table covering) (centres (top_for (most table.cells) + 1));
    }

-- the plan of a network over this covering
unfoldable pub covered_plan : Covering → Network → PlanData
covered_plan covering network = plan_over network (table_of network) covering

-- the plan of a network with the trade-off k
abbrev pub plan_of : Network → ℕ → PlanData
plan_of network k = covered_plan (Phased k) network

-- its plan over mean covers
abbrev pub mean_plan : Network → ℕ → PlanData
mean_plan network k = covered_plan (Mean k) network
