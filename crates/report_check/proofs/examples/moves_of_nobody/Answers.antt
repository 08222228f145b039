use Rattle.std.proofs.Common.{refl}
use Rattle.report_check.proofs.Judged.{judged}
use Rattle.report_check.proofs.examples.moves_of_nobody.Goals as goal

pub returns-clause-again : goal.returns-clause-again
unfolding judged
returns-clause-again c = refl

pub returns-clause-weight : goal.returns-clause-weight
unfolding judged
returns-clause-weight c = refl

pub returns-clause-light : goal.returns-clause-light
unfolding judged
returns-clause-light c = refl

pub returns-clause-without : goal.returns-clause-without
unfolding judged
returns-clause-without c = refl
