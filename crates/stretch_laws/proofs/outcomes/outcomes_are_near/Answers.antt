use Rattle.stretch_laws.proofs.NearLines.{outcomes-near}
use Rattle.stretch_laws.proofs.outcomes.outcomes_are_near.Goals as goal

pub returns : goal.returns
returns c = outcomes-near (assumption)
    c.quiet_finds_are_near.ensures
