use Rattle.std.proofs.Common.{refl}
use Rattle.directory.specs.Courses.{highest}
use Rattle.directory.specs.Histories.{tickets_from, words_after}
use Rattle.directory.specs.Outcomes.{step_lines}
use Rattle.directory.specs.Writes.{writes}
use Rattle.worked_examples.proofs.others.worked_others.Goals as goal

pub returns-clause-switched_elsewhere : goal.returns-clause-switched_elsewhere
unfolding tickets_from words_after highest writes step_lines
returns-clause-switched_elsewhere c = refl

pub returns-clause-moves_of_another : goal.returns-clause-moves_of_another
unfolding tickets_from words_after highest writes step_lines
returns-clause-moves_of_another c = refl

pub returns-clause-second_caller : goal.returns-clause-second_caller
unfolding tickets_from words_after highest writes step_lines
returns-clause-second_caller c = refl

pub returns-clause-both_callers : goal.returns-clause-both_callers
unfolding tickets_from words_after highest writes step_lines
returns-clause-both_callers c = refl
