-- What a whole move over the tracker does to its pass and to its handset, and why none is made. Key
-- law: `move_to`, by its clause `moved`.
use Rattle.std.specs.Prelude.{◌≡◌, ℕ, zero, suc, ◌<◌, ◌≤◌, List, [], ◌∷◌, ◌++◌, length, map, slice_index, Some, None}
use Rattle.entry_word.specs.declared.visit.Visit.{Visit}
use Rattle.directory.specs.Settings.{Setting}
use Rattle.directory.specs.Courses.{Step, move_to}
use Rattle.directory.specs.Histories.{own, puts_to}
use Rattle.directory.specs.Looks.{first_of, last_of}
use Rattle.directory.specs.Writes.{commit_place, most_writes, step_writes, visit_of}
use Rattle.handset.specs.Beginning.{begin_move, journey_to, move_fault}
use Rattle.handset.specs.Condition.{HandsetData}
use Rattle.handset.specs.StepWrites.{after_write, due}
use Rattle.directory.specs.Amid.{course_of}
use Rattle.handset.specs.Stands.{StandsForSteps}
use Rattle.handset.specs.declared.fault.MoveFault.TheVariants as begins
use Rattle.region_plan.specs.Plan.{PlanData}
use Rattle.region_plan.specs.Settings.{setting_of}
use Rattle.station.specs.Handsets.{IsHandsetOf}
use Rattle.station.specs.Passes.{PassData, actor_of}
use Rattle.station.specs.Setup.{Setup, setting_in}
use Rattle.tracker_calls.specs.Added.{HasAdded}
use Rattle.tracker_calls.specs.declared.whole_moves.Moved.{Moved}
use Rattle.tracker_calls.specs.declared.whole_moves.MoveToFault.{MoveToFault}
use Rattle.tracker_calls.specs.declared.whole_moves.MoveToFault.TheVariants.{NoNode, SamePlace, UnderWay, IsOff, NumbersSpent, Unreserved}

-- a whole move may come: it may begin, and its pass has room for all puts that a move can have
pub record MayMoveTo (plan : PlanData) (pass : PassData) (handset : HandsetData)
    (to : ℕ) : Type 0 where
  pub begins : move_fault plan handset to ≡ None
  pub room : most_writes (setting_of plan []) ≤ pass.spare

-- why it may not: the first of these that holds
abbrev pub IsMoveToFault : PlanData → PassData → HandsetData → ℕ → MoveToFault → Type 0
IsMoveToFault plan pass handset to NoNode = move_fault plan handset to ≡ Some begins.NoNode
IsMoveToFault plan pass handset to SamePlace = move_fault plan handset to ≡ Some begins.SamePlace
IsMoveToFault plan pass handset to UnderWay = move_fault plan handset to ≡ Some begins.UnderWay
IsMoveToFault plan pass handset to IsOff = move_fault plan handset to ≡ Some begins.IsOff
IsMoveToFault plan pass handset to NumbersSpent =
    move_fault plan handset to ≡ Some begins.NumbersSpent
IsMoveToFault plan pass handset to (Unreserved need) =
    (move_fault plan handset to ≡ None)
    × (need ≡ most_writes (setting_of plan [])) × (pass.spare < need)

-- the puts of a subscriber that moves to a node, after these steps
abbrev pub puts_of_move : Setting → ℕ → List Step → ℕ → List Visit
puts_of_move setting sub steps to =
    map (visit_of sub) (step_writes setting (course_of setting sub steps) (move_to to))

-- a handset after so many of the writes that it has left
unfoldable pub after_writes : Setting → HandsetData → ℕ → HandsetData
after_writes setting handset zero = handset
after_writes setting handset (suc count) =
    after_write setting (after_writes setting handset count)
    (after_writes setting handset count).stage

-- the pass has made all puts of a move with these tickets, as its next own visits; the handset,
-- which stood for these steps with nothing left, has begun the move and made each of its puts, and
-- now stands for the steps and the move behind them; whatever steps of its own a caller knew it to
-- stand for, it stands for these and the move
pub record HasMoved (setup : Setup) (old : PassData) (handset : HandsetData) (to : ℕ)
    (moved : Moved) (new : PassData) (after : HandsetData) : Type 0 where
  pub steps : List Step
  pub stood : StandsForSteps (setting_in setup) handset steps
      (length (puts_to (actor_of old) old.view.seen))
  pub made : List ℕ
  pub added : HasAdded setup old made new
  pub count : length made
      ≡ length (puts_of_move (setting_in setup) (actor_of old) steps to)
  pub visits : own (actor_of old) new.view.seen ≡ own (actor_of old) old.view.seen
      ++ puts_of_move (setting_in setup) (actor_of old) steps to
  pub after_is : after ≡ after_writes (setting_in setup)
      (begin_move (setting_in setup) handset to) (length made)
  pub rest : due (setting_in setup) after ≡ None
  pub its : IsHandsetOf setup new.view after
  pub steps_are : its.steps ≡ steps ++ move_to to ∷ []
  pub goes_on : (own : IsHandsetOf setup old.view handset)
      → (its : IsHandsetOf setup new.view after) × (its.steps ≡ own.steps ++ move_to to ∷ [])
  pub number : moved.number ≡ suc handset.number
  pub first : moved.first ≡ first_of made
  pub commit : moved.commit ≡ slice_index made
      (commit_place (journey_to (setting_in setup) handset to))
  pub last : moved.last ≡ last_of made
