use Rattle.std.proofs.Common.{refl}
use Rattle.report_check.proofs.Judged.{judged}
use Rattle.report_check.proofs.examples_of_parts.first_flaws.Goals as goal

pub returns-clause-tickets_before_place : goal.returns-clause-tickets_before_place
unfolding judged
returns-clause-tickets_before_place c = refl

pub returns-clause-tickets_before_again : goal.returns-clause-tickets_before_again
unfolding judged
returns-clause-tickets_before_again c = refl

pub returns-clause-tickets_before_weight : goal.returns-clause-tickets_before_weight
unfolding judged
returns-clause-tickets_before_weight c = refl

pub returns-clause-left_over_before_place : goal.returns-clause-left_over_before_place
unfolding judged
returns-clause-left_over_before_place c = refl

pub returns-clause-first_line : goal.returns-clause-first_line
unfolding judged
returns-clause-first_line c = refl

pub returns-clause-form_before_all : goal.returns-clause-form_before_all
unfolding judged
returns-clause-form_before_all c = refl
