use Rattle.std.proofs.Common.{refl}
use Rattle.report_check.proofs.Judged.{judged}
use Rattle.report_check.proofs.examples.flaws_of_tickets.Goals as goal

pub returns-clause-stranger : goal.returns-clause-stranger
unfolding judged
returns-clause-stranger c = refl

pub returns-clause-left_over : goal.returns-clause-left_over
unfolding judged
returns-clause-left_over c = refl

pub returns-clause-left_over_move : goal.returns-clause-left_over_move
unfolding judged
returns-clause-left_over_move c = refl

pub returns-clause-late_first : goal.returns-clause-late_first
unfolding judged
returns-clause-late_first c = refl

pub returns-clause-early_last : goal.returns-clause-early_last
unfolding judged
returns-clause-early_last c = refl

pub returns-clause-no_visits : goal.returns-clause-no_visits
unfolding judged
returns-clause-no_visits c = refl

pub returns-clause-in_turn : goal.returns-clause-in_turn
unfolding judged
returns-clause-in_turn c = refl

pub returns-clause-ends_before_it_begins : goal.returns-clause-ends_before_it_begins
unfolding judged
returns-clause-ends_before_it_begins c = refl
