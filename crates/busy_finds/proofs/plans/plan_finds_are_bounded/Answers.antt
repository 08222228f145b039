use Rattle.busy_finds.proofs.Bounded.{plan-between, plan-bounded}
use Rattle.busy_finds.proofs.plans.plan_finds_are_bounded.Goals as goal

pub returns : goal.returns
returns c = record {
  bounded = plan-bounded c.plans_track.ensures c.every_find_has_its_price.ensures.bounded;
  between = plan-between c.plans_track.ensures c.every_find_has_its_price.ensures.between;
}
