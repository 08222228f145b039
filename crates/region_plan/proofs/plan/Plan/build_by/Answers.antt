use Rattle.std.proofs.Common.{refl, subst, sym, arith}
use Rattle.distances.specs.Table.{IsMetric}
use Rattle.region_plan.specs.Matched.{BoundsFinds}
use Rattle.region_plan.specs.Plan.{PlanData}
use Rattle.region_plan.specs.Meanings.{IsCoveredPlan}
use Rattle.region_plan.specs.Kept.{plan_with}
use Rattle.region_plan.proofs.Covered.{reach_near}
use Rattle.region_plan.proofs.Levels.{plan_built}
use Rattle.region_plan.proofs.Matching.{plan_bounds}
use Rattle.region_plan.proofs.plan.Plan.build_by.Goals as goal
use Rattle.region_plan.proofs.plan.Plan.build_by.Goals.{After-reach}

-- what is made of the levels is the plan of the network over the covering
abbrev made : (c : After-reach) → PlanData
made c = plan_with c.trade_off.result c.reach.result c.in_ok-copy.copy c.in_ok-levels.levels

made_is : (c : After-reach) → IsCoveredPlan c.args.covering c.args.graph.now (made c)
made_is c = plan_built c.in_ok-levels.levels c.requires.belongs c.in_ok-copy.ensures c.trade_off.ensures c.reach.ensures
    refl (omega (arith, c.in_ok-levels.ensures.levels.count_is)) c.top_for-top.ensures.top
    (λ j h. c.in_ok-levels.ensures.levels.each j (omega arith))

made_metric : (c : After-reach) → IsMetric (made c).distances
made_metric c = rw c.in_ok-copy.ensures c.top_for-top.ensures.metric

made_bounds : (c : After-reach) → BoundsFinds (made c)
made_bounds c = plan_bounds c.covering_shape.ensures c.covering_home_means.ensures c.graph_is_sound.ensures
    c.requires.low (made_metric c) (made_is c)

pub of_levels-requires-clause-kept : goal.of_levels-requires-clause-kept
of_levels-requires-clause-kept c = record {
  some = omega (arith, c.in_ok-levels.ensures.levels.count_is);
  few = omega (arith, c.in_ok-levels.ensures.levels.count_is, c.top_for-top.ensures.few);
  low = omega (arith, c.trade_off.ensures, c.requires.low);
  high = omega (arith, c.trade_off.ensures, c.requires.high);
  near = omega (arith, c.reach.ensures, reach_near c.args.covering c.requires.high);
  metric = made_metric c;
  levels = rw c.in_ok-copy.ensures c.in_ok-levels.ensures.levels.sized;
}

pub of_levels-requires-clause-matched : goal.of_levels-requires-clause-matched
of_levels-requires-clause-matched c = (made_bounds c).matched

pub of_levels-requires-clause-reached : goal.of_levels-requires-clause-reached
of_levels-requires-clause-reached c = (made_bounds c).reached

pub returns-clause-plan : goal.returns-clause-plan
returns-clause-plan c = c.covered_plan_is_one.ensures c.args.covering c.args.graph.now c.of_levels.result
    c.graph_is_sound.ensures c.requires.low
    (subst (IsCoveredPlan c.args.covering c.args.graph.now) (sym c.of_levels.ensures) (made_is c.before))

pub returns-clause-bounding : goal.returns-clause-bounding
returns-clause-bounding c = subst BoundsFinds (sym c.of_levels.ensures) (made_bounds c.before)
