use Rattle.busy_finds.proofs.Altogether.{plan-in-turn}
use Rattle.busy_finds.proofs.plans.plan_finds_in_turn_are_bounded.Goals as goal

pub returns : goal.returns
returns c = plan-in-turn c.plans_track.ensures c.finds_in_turn_are_bounded.ensures
