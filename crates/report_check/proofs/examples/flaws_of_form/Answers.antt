use Rattle.std.proofs.Common.{refl}
use Rattle.report_check.proofs.Judged.{judged}
use Rattle.report_check.proofs.examples.flaws_of_form.Goals as goal

pub returns-clause-nothing : goal.returns-clause-nothing
unfolding judged
returns-clause-nothing c = refl

pub returns-clause-no_line_feed : goal.returns-clause-no_line_feed
unfolding judged
returns-clause-no_line_feed c = refl

pub returns-clause-second_order : goal.returns-clause-second_order
unfolding judged
returns-clause-second_order c = refl

pub returns-clause-wrong_end : goal.returns-clause-wrong_end
unfolding judged
returns-clause-wrong_end c = refl

pub returns-clause-more_behind : goal.returns-clause-more_behind
unfolding judged
returns-clause-more_behind c = refl

pub returns-clause-two_blanks : goal.returns-clause-two_blanks
unfolding judged
returns-clause-two_blanks c = refl

pub returns-clause-leading_zero : goal.returns-clause-leading_zero
unfolding judged
returns-clause-leading_zero c = refl

pub returns-clause-no_node : goal.returns-clause-no_node
unfolding judged
returns-clause-no_node c = refl

pub returns-clause-no_level : goal.returns-clause-no_level
unfolding judged
returns-clause-no_level c = refl

pub returns-clause-wrong_number : goal.returns-clause-wrong_number
unfolding judged
returns-clause-wrong_number c = refl

pub returns-clause-too_large : goal.returns-clause-too_large
unfolding judged
returns-clause-too_large c = refl

pub returns-clause-largest : goal.returns-clause-largest
unfolding judged
returns-clause-largest c = refl
