use Rattle.busy_finds.proofs.PricedLines.{outcomes-priced}
use Rattle.busy_finds.proofs.outcomes.plan_outcomes_are_priced.Goals as goal

pub returns : goal.returns
returns c = outcomes-priced (assumption) c.plan_finds_are_bounded.ensures.bounded
