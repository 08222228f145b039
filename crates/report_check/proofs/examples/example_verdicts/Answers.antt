use Rattle.std.proofs.Common.{refl}
use Rattle.std.specs.Fmt.{digits}
use Rattle.report_check.proofs.examples.example_verdicts.Goals as goal

pub returns-clause-sound : goal.returns-clause-sound
returns-clause-sound c = refl

pub returns-clause-unsound : goal.returns-clause-unsound
unfolding digits
returns-clause-unsound c = refl

pub returns-clause-form : goal.returns-clause-form
unfolding digits
returns-clause-form c = refl

pub returns-clause-tickets : goal.returns-clause-tickets
unfolding digits
returns-clause-tickets c = refl

pub returns-clause-place : goal.returns-clause-place
unfolding digits
returns-clause-place c = refl

pub returns-clause-again : goal.returns-clause-again
unfolding digits
returns-clause-again c = refl

pub returns-clause-last_line : goal.returns-clause-last_line
returns-clause-last_line c = refl

pub returns-clause-stands_still : goal.returns-clause-stands_still
returns-clause-stands_still c = refl
