use Rattle.std.proofs.Common.{refl}
use Rattle.report_check.proofs.Judged.{judged}
use Rattle.report_check.proofs.examples_of_parts.finds_of_off.Goals as goal

pub returns-clause-by_its_last : goal.returns-clause-by_its_last
unfolding judged
returns-clause-by_its_last c = refl

pub returns-clause-elsewhere : goal.returns-clause-elsewhere
unfolding judged
returns-clause-elsewhere c = refl

pub returns-clause-wrong_count : goal.returns-clause-wrong_count
unfolding judged
returns-clause-wrong_count c = refl

pub returns-clause-too_heavy : goal.returns-clause-too_heavy
unfolding judged
returns-clause-too_heavy c = refl

pub returns-clause-last_of_another : goal.returns-clause-last_of_another
unfolding judged
returns-clause-last_of_another c = refl

pub returns-clause-moved_while_off : goal.returns-clause-moved_while_off
unfolding judged
returns-clause-moved_while_off c = refl
