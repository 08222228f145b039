use Rattle.std.proofs.Common.{◌≡◌, refl, subst, arith}
use Rattle.plan_laws.specs.Examples.{line_network, line_of_four}
use Rattle.region_plan.specs.Matched.{BoundsFinds}
use Rattle.region_plan.specs.Plan.{PlanData}
use Rattle.region_plan.specs.Regions.{covered_plan, plan_of}
use Rattle.net_graph.specs.LeastWeights.{first_passing, reaches}
use Rattle.node_set.specs.Balls.{least, growth, union_of, is_homed, home_of}
use Rattle.coarse_cover.specs.Coarsening.{is_enough, cluster_of, phase, phases, all_clusters}
use Rattle.coarse_cover.specs.Covers.{as_cluster, cluster_list}
use Rattle.plan_laws.proofs.LineNetwork.{line_is_network}
use Rattle.plan_laws.proofs.line.line_has_its_plan.Goals as goal

line_is : plan_of line_network 2 ≡ line_of_four
unfolding covered_plan first_passing reaches least growth union_of is_homed home_of is_enough cluster_of
    phase phases all_clusters as_cluster cluster_list
line_is = refl

pub returns-clause-plan : goal.returns-clause-plan
returns-clause-plan c = line_is

pub returns-clause-bounding : goal.returns-clause-bounding
returns-clause-bounding c = subst (λ (p : PlanData). BoundsFinds p) line_is
    (c.plan_is_bounding.ensures line_network 2 line_is_network (omega arith))
