use Rattle.std.proofs.Common.{refl}
use Rattle.directory.specs.Courses.{highest}
use Rattle.directory.specs.Histories.{tickets_from, words_after}
use Rattle.directory.specs.Writes.{writes}
use Rattle.directory.specs.Outcomes.{step_lines}
use Rattle.worked_examples.proofs.orders.worked_orders.Goals as goal

pub returns-clause-far_find : goal.returns-clause-far_find
unfolding tickets_from words_after highest writes step_lines
returns-clause-far_find c = refl

pub returns-clause-near_find : goal.returns-clause-near_find
unfolding tickets_from words_after highest writes step_lines
returns-clause-near_find c = refl

pub returns-clause-move_alone : goal.returns-clause-move_alone
unfolding tickets_from words_after highest writes step_lines
returns-clause-move_alone c = refl

pub returns-clause-find_after_move : goal.returns-clause-find_after_move
unfolding tickets_from words_after highest writes step_lines
returns-clause-find_after_move c = refl

pub returns-clause-two_moves : goal.returns-clause-two_moves
unfolding tickets_from words_after highest writes step_lines
returns-clause-two_moves c = refl

pub returns-clause-find_meets_coming : goal.returns-clause-find_meets_coming
unfolding tickets_from words_after highest writes step_lines
returns-clause-find_meets_coming c = refl

pub returns-clause-find_meets_purged : goal.returns-clause-find_meets_purged
unfolding tickets_from words_after highest writes step_lines
returns-clause-find_meets_purged c = refl

pub returns-clause-find_in_passage : goal.returns-clause-find_in_passage
unfolding tickets_from words_after highest writes step_lines
returns-clause-find_in_passage c = refl

pub returns-clause-find_before_move : goal.returns-clause-find_before_move
unfolding tickets_from words_after highest writes step_lines
returns-clause-find_before_move c = refl

pub returns-clause-find_at_rest : goal.returns-clause-find_at_rest
unfolding tickets_from words_after highest writes step_lines
returns-clause-find_at_rest c = refl

pub returns-clause-find_of_returning : goal.returns-clause-find_of_returning
unfolding tickets_from words_after highest writes step_lines
returns-clause-find_of_returning c = refl

pub returns-clause-two_finds : goal.returns-clause-two_finds
unfolding tickets_from words_after highest writes step_lines
returns-clause-two_finds c = refl

pub returns-clause-find_of_off : goal.returns-clause-find_of_off
unfolding tickets_from words_after highest writes step_lines
returns-clause-find_of_off c = refl

pub returns-clause-find_between_switches : goal.returns-clause-find_between_switches
unfolding tickets_from words_after highest writes step_lines
returns-clause-find_between_switches c = refl
