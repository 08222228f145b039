use Rattle.std.proofs.Common.{refl}
use Rattle.report_check.proofs.Judged.{judged}
use Rattle.report_check.proofs.examples.switches_by_tickets.Goals as goal

pub returns-clause-switched : goal.returns-clause-switched
unfolding judged
returns-clause-switched c = refl

pub returns-clause-told_on : goal.returns-clause-told_on
unfolding judged
returns-clause-told_on c = refl

pub returns-clause-switch_is_no_move : goal.returns-clause-switch_is_no_move
unfolding judged
returns-clause-switch_is_no_move c = refl

pub returns-clause-two_tickets : goal.returns-clause-two_tickets
unfolding judged
returns-clause-two_tickets c = refl

pub returns-clause-wrong_state : goal.returns-clause-wrong_state
unfolding judged
returns-clause-wrong_state c = refl

pub returns-clause-switch_of_another : goal.returns-clause-switch_of_another
unfolding judged
returns-clause-switch_of_another c = refl
