-- Networks over which the least walks weigh the same have one plan.
use Rattle.std.proofs.Common.{◌≡◌, ℕ, ◌∙◌, List, [], ◌∷◌}
use Rattle.net_graph.specs.Network.{Network, SameWalks}
use Rattle.net_graph.specs.Walks.{everywhere}
use Rattle.distances.specs.Table.{dist}
use Rattle.coarse_cover.specs.Covers.{cluster_list}
use Rattle.coarse_cover.specs.declared.cover.Cluster.{Cluster}
use Rattle.cluster_tree.specs.Tree.{WeighedCluster, IsTreeOf, inside_weight, within}
use Rattle.region_plan.specs.Meanings.{AreClustersOf, CoveredPlansAreOne, CoveredPlansMean, IsCoveredPlan, as_tree}
use Rattle.region_plan.specs.Plan.{PlanCluster, PlanData, level_at}
use Rattle.region_plan.specs.Regions.{covered_plan, regions_of}
use Rattle.region_plan.specs.declared.covering.Covering.{Covering}
use Rattle.plan_laws.specs.SameWalks.{CoveredPlansOfSameWalks}

-- the tree of a cluster is the same
tree_over : (one other : Network) (members : List ℕ) (leader : ℕ) (cluster : WeighedCluster)
    → SameWalks other.edges one.edges → IsTreeOf one members leader cluster → IsTreeOf other members leader cluster
tree_over one other members leader cluster same tree = record {
  leader_is = tree.leader_is;
  members_are = tree.members_are;
  each = λ v member. (same.least (within members) leader v (inside_weight cluster v)).1 (tree.each v member);
}

clusters_over : (one other : Network) (made : List Cluster) (clusters : List PlanCluster)
    → SameWalks other.edges one.edges → AreClustersOf one made clusters → AreClustersOf other made clusters
clusters_over one other [] [] same h = tt
clusters_over one other [] (d ∷ ds) same h = h
clusters_over one other (c ∷ cs) [] same h = h
clusters_over one other (c ∷ cs) (d ∷ ds) same h = (
  record {
    leader = h.0.leader;
    phase = h.0.phase;
    members = h.0.members;
    tree = tree_over one other c.members.members c.first (as_tree d) same h.0.tree;
    count = h.0.count;
    depth = h.0.depth;
  },
  clusters_over one other cs ds same h.1,
)

plan_over_same : (one other : Network) (covering : Covering) (plan : PlanData) → one.nodes ≡ other.nodes
    → SameWalks other.edges one.edges → IsCoveredPlan covering one plan → IsCoveredPlan covering other plan
plan_over_same one other covering plan nodes same is = record {
  distances = record {
    nodes = is.distances.nodes ∙ nodes;
    count = is.distances.count;
    each = λ u v hu hv. (same.least everywhere u v (dist plan.distances u v)).1 (is.distances.each u v hu hv);
  };
  trade_off = is.trade_off;
  reach = is.reach;
  some = is.some;
  top = is.top;
  each = λ i below.
      let level = is.each i below in
      record {
        exponent = level.exponent;
        threshold = level.threshold;
        phases = level.phases;
        clusters = clusters_over one other (cluster_list plan.distances.nodes 0 (regions_of plan.distances covering i))
            (level_at plan i).clusters same level.clusters;
        homes = level.homes;
        readers = level.readers;
      };
}

pub same_plans : CoveredPlansMean → CoveredPlansAreOne → CoveredPlansOfSameWalks
same_plans plans_mean plans_are_one covering one other sound given nodes same low =
    plans_are_one covering other (covered_plan covering one) given low
    (plan_over_same one other covering (covered_plan covering one) nodes same (plans_mean covering one sound low))
