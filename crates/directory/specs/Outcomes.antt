-- What becomes of the calls of all actors under an order: of each move, switch and find one line
-- with its tickets, by actor and in the order of its script; and whose visit each ticket was.
-- Key law: `lines_are_made` (each line is tied to its visits); `worked_orders` computes rows.
use Rattle.std.specs.Prelude.{◌≡◌, ◌≤◌, ℕ, suc, true, false, List, [], ◌∷◌, ◌++◌, map, length, take, drop, flat_map, slice_get, slice_index, Some}
use Rattle.node_set.specs.Ascending.{IsAscending}
use Rattle.directory.specs.Settings.{Setting, subs, start}
use Rattle.directory.specs.Histories.{History, tickets}
use Rattle.directory.specs.Courses.{Step, move_to, switch_off, switch_on, Move, Course, course_at, last_stop, next_move, after_step, after_steps}
use Rattle.directory.specs.Writes.{commit_place, numbers_from, step_writes, visit_of}
use Rattle.directory.specs.Finds.{FindCall}
use Rattle.directory.specs.Looks.{first_of, last_of, IsFind}
use Rattle.directory.specs.Orders.{Scripts, steps_of, finds_of, Answer, caller_in, history_of}
use Rattle.directory.specs.declared.answers.Outcome.{Outcome as Answered}
use Rattle.directory.specs.declared.answers.Found.{Found}
use Rattle.directory.specs.declared.answers.Found.TheVariants.{At, Off as OffAt, Again}
use Rattle.directory.specs.declared.answers.Done.{Done}
use Rattle.directory.specs.declared.answers.Done.TheVariants.{Moved, Switched, Found as FoundBy, Off as OffBy, Again as AgainBy}

-- what became of a move, whose visits have these tickets
abbrev pub move_line : ℕ → Move → List ℕ → Done
move_line sub move seen =
    Moved sub move.number move.from move.to move.weight
    (first_of seen) (slice_index seen (commit_place move)) (last_of seen)

-- what became of a step that came next in a course, whose visits have these tickets
abbrev pub step_line : Setting → ℕ → Course → Step → List ℕ → Done
step_line setting sub course (move_to node) seen =
    move_line sub (next_move setting course node) seen
step_line setting sub course switch_off seen =
    Switched sub true (last_stop course) (length course.moves) (first_of seen)
step_line setting sub course switch_on seen =
    Switched sub false (last_stop course) (length course.moves) (first_of seen)

-- what became of steps that came next in a course, whose visits have these tickets
unfoldable pub step_lines : Setting → ℕ → Course → List Step → List ℕ → List Done
step_lines setting sub course [] seen = []
step_lines setting sub course (step ∷ steps) seen =
    step_line setting sub course step (take (length (step_writes setting course step)) seen)
    ∷ step_lines setting sub (after_step setting course step) steps
    (drop (length (step_writes setting course step)) seen)

-- what became of the steps of a subscriber
abbrev pub sub_lines : Setting → Scripts → History → ℕ → List Done
sub_lines setting scripts history sub =
    step_lines setting sub (course_at (start setting sub)) (steps_of scripts sub)
    (tickets sub history)

-- what became of a find, with the tickets of its first look and its last
abbrev pub found_line : ℕ → FindCall → Found → ℕ → ℕ → Done
found_line caller call (At node number level weight) first last =
    FoundBy caller call.from call.sub node number level weight first last
found_line caller call (OffAt node number level weight) first last =
    OffBy caller call.from call.sub node number level weight first last
found_line caller call (Again why weight) first last =
    AgainBy caller call.from call.sub why weight first last

-- the line of an answer of a caller, whose looks have these tickets
abbrev pub answer_line : ℕ → List ℕ → Answer → Done
answer_line caller seen answer =
    found_line caller answer.call answer.found (slice_index seen answer.first)
    (slice_index seen answer.last)

-- the lines of the finds of a caller that are done
abbrev pub caller_lines : Setting → Scripts → History → ℕ → List Done
caller_lines setting scripts history caller =
    map (answer_line caller (tickets caller history))
    (caller_in setting scripts history caller).answers

-- what became of all calls, and whose visit each ticket was
pub record Outcome : Type 0 where
  pub calls : List Done
  pub order : List ℕ

-- what an outcome that was made says
abbrev pub result_of : Answered → Outcome
result_of made = record { calls = made.calls.items; order = made.order.items }

-- what became of the calls by a history in which all scripts are done
abbrev pub outcome_in : Setting → Scripts → History → Outcome
outcome_in setting scripts history =
    record {
      calls = flat_map (sub_lines setting scripts history) (numbers_from 0 (subs setting))
          ++ flat_map (caller_lines setting scripts history)
          (numbers_from (subs setting) (length scripts.finds));
      order = map (λ visit. visit.actor) history;
    }

-- what becomes of the calls under an order
abbrev pub outcome_of : Setting → Scripts → List ℕ → Outcome
outcome_of setting scripts order = outcome_in setting scripts (history_of setting scripts order)

-- a line of a subscriber tells a step of its script: the visits with these ascending tickets are
-- all visits of that step, when the steps before it were made
pub record IsStepLine (setting : Setting) (scripts : Scripts) (history : History) (sub : ℕ)
    (line : Done) : Type 0 where
  pub before : List Step
  pub step : Step
  pub later : List Step
  pub seen : List ℕ
  pub script : steps_of scripts sub ≡ before ++ step ∷ later
  pub ascending : IsAscending seen
  pub made : map (slice_get history) seen
      ≡ map (λ write. Some (visit_of sub write))
      (step_writes setting (after_steps setting (course_at (start setting sub)) before) step)
  pub tells : line
      ≡ step_line setting sub (after_steps setting (course_at (start setting sub)) before) step seen

-- a line of a caller tells a find of its script: the visits with these tickets are all its looks
pub record IsFindLine (setting : Setting) (scripts : Scripts) (history : History) (caller : ℕ)
    (call : FindCall) (line : Done) : Type 0 where
  pub before : List FindCall
  pub later : List FindCall
  pub found : Found
  pub seen : List ℕ
  pub script : finds_of setting scripts caller ≡ before ++ call ∷ later
  pub find : IsFind setting history caller call found seen
  pub tells : line ≡ found_line caller call found (first_of seen) (last_of seen)

-- a line is tied to its visits
abbrev pub IsMade : Setting → Scripts → History → Done → Type 0
IsMade setting scripts history (Moved actor number from to weight first commit last) =
    IsStepLine setting scripts history actor
    (Moved actor number from to weight first commit last)
IsMade setting scripts history (Switched actor off node number ticket) =
    IsStepLine setting scripts history actor (Switched actor off node number ticket)
IsMade setting scripts history (FoundBy actor from sub node number level weight first last) =
    IsFindLine setting scripts history actor (record { from = from; sub = sub })
    (FoundBy actor from sub node number level weight first last)
IsMade setting scripts history (OffBy actor from sub node number level weight first last) =
    IsFindLine setting scripts history actor (record { from = from; sub = sub })
    (OffBy actor from sub node number level weight first last)
IsMade setting scripts history (AgainBy actor from sub why weight first last) =
    IsFindLine setting scripts history actor (record { from = from; sub = sub })
    (AgainBy actor from sub why weight first last)

-- each answer of a caller is looked for after the one before: its looks are later visits
unfoldable pub FollowEachOther : ℕ → List Answer → Type 0
FollowEachOther place [] = Unit {0}
FollowEachOther place (answer ∷ later) =
    (place ≤ answer.first) × (answer.first ≤ answer.last)
    × FollowEachOther (suc answer.last) later
