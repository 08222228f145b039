use Rattle.stretch_laws.proofs.PlanLaws.{plan-near}
use Rattle.stretch_laws.proofs.plans.plan_finds_are_near.Goals as goal

pub returns : goal.returns
returns c = plan-near c.quiet_finds_are_near.ensures
