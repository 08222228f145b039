use Rattle.whole_cost.proofs.Together.{plan-bounded}
use Rattle.whole_cost.proofs.laws.plan_runs_are_bounded.Goals as goal

pub returns : goal.returns
returns c =
    plan-bounded c.plan_finds_in_turn_are_bounded.ensures c.plans_are_paced.ensures c.written_is_bounded.ensures
