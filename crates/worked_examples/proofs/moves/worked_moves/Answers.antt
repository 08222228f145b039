use Rattle.std.proofs.Common.{◌≡◌, List, length, [], ◌∷◌, ◌++◌, subst, ap, ◌∙◌}
use Rattle.entry_word.specs.declared.visit.Visit.{Visit}
use Rattle.directory.specs.Courses.{Step, highest, move_to}
use Rattle.directory.specs.Histories.{own}
use Rattle.directory.specs.Writes.{writes}
use Rattle.handset.specs.Condition.{HandsetData}
use Rattle.plan_laws.specs.Examples.{line_setting}
use Rattle.station.specs.Passes.{PassData}
use Rattle.tracker_calls.specs.WholeMoves.{HasMoved, puts_of_move}
use Rattle.tracker_calls.specs.declared.whole_moves.Moved.{Moved}
use Rattle.worked_examples.specs.Passes.{HasPass, count_by, line_setup}
use Rattle.worked_examples.proofs.moves.worked_moves.Goals as goal

pub returns-clause-count : goal.returns-clause-count
unfolding writes highest
returns-clause-count c = λ old new handset after moved made is first.
    let own_steps = subst (λ n. length made.made
    ≡ length (puts_of_move line_setting n made.steps 2)) is.low made.count in
    subst (λ s. length made.made ≡ length (puts_of_move line_setting 0 s 2)) first own_steps

-- all own visits behind the move: with nothing unfolded, a move that tells others is refused soon
visits-are : (old new : PassData) (handset after : HandsetData) (moved : Moved) (seen : List Visit)
    (made : HasMoved line_setup old handset 2 moved new after) → HasPass old 0 seen → made.steps ≡ []
    → own 0 new.view.seen ≡ own 0 seen ++ puts_of_move line_setting 0 [] 2
visits-are old new handset after moved seen made is first =
    let by = subst (λ n. own n new.view.seen
    ≡ own n old.view.seen ++ puts_of_move line_setting n made.steps 2) is.low made.visits in
    let alone = subst (λ s. own 0 new.view.seen
    ≡ own 0 s ++ puts_of_move line_setting 0 made.steps 2) is.seen_is by in
    subst (λ s. own 0 new.view.seen ≡ own 0 seen ++ puts_of_move line_setting 0 s 2) first alone

pub returns-clause-visits : goal.returns-clause-visits
unfolding writes highest
returns-clause-visits c = λ old new handset after moved made is first.
    visits-are old new handset after moved [] made is first

pub returns-clause-behind : goal.returns-clause-behind
unfolding writes highest
returns-clause-behind c = λ old new handset after moved made is first.
    visits-are old new handset after moved (count_by 0 0 ∷ []) made is first

pub returns-clause-steps : goal.returns-clause-steps
returns-clause-steps c = λ old new handset after moved made first.
    subst (λ s. made.its.steps ≡ s ++ move_to 2 ∷ []) first made.steps_are

pub returns-clause-own_steps : goal.returns-clause-own_steps
returns-clause-own_steps c = λ old new handset after moved own made before.
    let on = made.goes_on own in
    (on.0, on.1 ∙ ap (λ (steps : List Step). steps ++ move_to 2 ∷ []) before)
