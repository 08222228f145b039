use Rattle.std.proofs.Common.{refl}
use Rattle.report_check.proofs.Judged.{judged}
use Rattle.report_check.proofs.examples.moves_by_commits.Goals as goal

pub returns-clause-sound : goal.returns-clause-sound
unfolding judged
returns-clause-sound c = refl

pub returns-clause-commit_first : goal.returns-clause-commit_first
unfolding judged
returns-clause-commit_first c = refl

pub returns-clause-commit_of_another : goal.returns-clause-commit_of_another
unfolding judged
returns-clause-commit_of_another c = refl

pub returns-clause-last_of_another : goal.returns-clause-last_of_another
unfolding judged
returns-clause-last_of_another c = refl

pub returns-clause-between_moves : goal.returns-clause-between_moves
unfolding judged
returns-clause-between_moves c = refl

pub returns-clause-behind_moves : goal.returns-clause-behind_moves
unfolding judged
returns-clause-behind_moves c = refl

pub returns-clause-passage_of_the_last : goal.returns-clause-passage_of_the_last
unfolding judged
returns-clause-passage_of_the_last c = refl

pub returns-clause-beyond_it : goal.returns-clause-beyond_it
unfolding judged
returns-clause-beyond_it c = refl
