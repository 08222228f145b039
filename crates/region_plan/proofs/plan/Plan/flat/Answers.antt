use Rattle.std.proofs.Common.{◌∙◌, ap, arith}
use Rattle.distances.specs.Table.{IsMetric}
use Rattle.region_plan.specs.Plan.{PlanData}
use Rattle.region_plan.specs.Flat.{IsFlat}
use Rattle.region_plan.specs.Kept.{plan_with}
use Rattle.region_plan.proofs.Flatness.{flat_made, flat_matched, flat_reached}
use Rattle.region_plan.proofs.plan.Plan.flat.Goals as goal
use Rattle.region_plan.proofs.plan.Plan.flat.Goals.{In_ok-copy}

abbrev made : (c : In_ok-copy) → PlanData
made c = plan_with 1 1 c.in_ok-copy.field-0 c.in_ok-levels.levels

made_flat : (c : In_ok-copy) → IsFlat c.args.graph.now (made c)
made_flat c = flat_made c.in_ok-levels.levels c.requires.belongs c.in_ok-copy.ensures c.in_ok-levels.ensures.one
    c.in_ok-levels.ensures.level

made_metric : (c : In_ok-copy) → IsMetric (made c).distances
made_metric c = rw c.in_ok-copy.ensures c.flat_levels.ensures.metric

pub of_levels-requires-clause-kept : goal.of_levels-requires-clause-kept
of_levels-requires-clause-kept c = record {
  some = omega (arith, c.in_ok-levels.ensures.one);
  few = omega (arith, c.in_ok-levels.ensures.one);
  low = omega arith;
  high = omega arith;
  near = omega arith;
  metric = made_metric c;
  levels = rw c.in_ok-copy.ensures c.in_ok-levels.ensures.sized;
}

pub of_levels-requires-clause-matched : goal.of_levels-requires-clause-matched
of_levels-requires-clause-matched c = flat_matched c.args.graph.now (made c) (made_flat c) (made_metric c)

pub of_levels-requires-clause-reached : goal.of_levels-requires-clause-reached
of_levels-requires-clause-reached c = flat_reached c.args.graph.now (made c) (made_flat c)

pub returns-clause-plan : goal.returns-clause-plan
returns-clause-plan c = rw c.of_levels.ensures (made_flat c.before)

pub returns-clause-copy : goal.returns-clause-copy
returns-clause-copy c = ap (λ (p : PlanData). p.distances) c.of_levels.ensures ∙ c.in_ok-copy.ensures

pub returns-clause-matched : goal.returns-clause-matched
returns-clause-matched c = rw c.of_levels.ensures (of_levels-requires-clause-matched c.before)

pub returns-clause-reached : goal.returns-clause-reached
returns-clause-reached c = rw c.of_levels.ensures (of_levels-requires-clause-reached c.before)
