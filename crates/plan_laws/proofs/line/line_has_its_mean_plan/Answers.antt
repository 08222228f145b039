use Rattle.std.proofs.Common.{◌≡◌, refl, subst, arith}
use Rattle.plan_laws.specs.Examples.{line_network, mean_line_of_four}
use Rattle.region_plan.specs.Matched.{BoundsFinds}
use Rattle.region_plan.specs.Plan.{PlanData}
use Rattle.region_plan.specs.Regions.{covered_plan, mean_plan}
use Rattle.region_plan.specs.declared.covering.Covering.TheVariants.{Mean}
use Rattle.net_graph.specs.LeastWeights.{first_passing, reaches}
use Rattle.node_set.specs.Balls.{least, growth, union_of, is_homed, home_of}
use Rattle.coarse_cover.specs.Coarsening.{all_clusters}
use Rattle.coarse_cover.specs.Covers.{as_cluster, cluster_list}
use Rattle.mean_cover.specs.Covering.{is_last, mean_cluster, mean_clusters}
use Rattle.plan_laws.proofs.LineNetwork.{line_is_network}
use Rattle.plan_laws.proofs.line.line_has_its_mean_plan.Goals as goal

line_is : mean_plan line_network 2 ≡ mean_line_of_four
unfolding covered_plan first_passing reaches least growth union_of is_homed home_of is_last mean_cluster
    mean_clusters all_clusters as_cluster cluster_list
line_is = refl

pub returns-clause-plan : goal.returns-clause-plan
returns-clause-plan c = line_is

pub returns-clause-stretch : goal.returns-clause-stretch
returns-clause-stretch c = refl

pub returns-clause-bounding : goal.returns-clause-bounding
returns-clause-bounding c = subst (λ (p : PlanData). BoundsFinds p) line_is
    (c.covered_plan_is_bounding.ensures (Mean 2) line_network line_is_network (omega arith))
