use Rattle.trail_laws.proofs.RightLines.{numbers-rise, outcomes-right}
use Rattle.trail_laws.proofs.outcomes.outcomes_are_right.Goals as goal

pub returns : goal.returns
returns c = record {
  lines = outcomes-right (assumption) (assumption) (assumption) (assumption) (assumption) (assumption);
  numbers = numbers-rise (assumption) (assumption) (assumption) (assumption) (assumption);
}
