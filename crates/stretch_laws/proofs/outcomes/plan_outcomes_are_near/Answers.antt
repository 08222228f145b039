use Rattle.stretch_laws.proofs.NearLines.{plan-outcomes-near}
use Rattle.stretch_laws.proofs.outcomes.plan_outcomes_are_near.Goals as goal

pub returns : goal.returns
returns c = plan-outcomes-near (assumption)
    c.plan_finds_are_near.ensures
