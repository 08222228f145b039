-- Courses: what one step more makes of the visits, the place, the levels and the trail.
use Rattle.std.proofs.lemmas.Bool.Decides.{nat_tests}
use Rattle.std.proofs.Common.{◌≡◌, ℕ, ◌≤◌, false, cond, List, [], ◌∷◌, ◌++◌, length, ap, ◌∙◌, arith, length-append}
use Rattle.std.specs.Prelude.{nat_le, ◌==◌, ◌||◌}
use Rattle.std.proofs.lemmas.List.{map-append, drop-append-le, drop_at}
use Rattle.std.proofs.lemmas.List.Sums.{fold-append}
use Rattle.std.proofs.Math.Bool.{or-false}
use Rattle.node_set.specs.Ascending.{has}
use Rattle.node_set.specs.SetLaws.{has-append}
use Rattle.directory.specs.Settings.{Setting, start}
use Rattle.directory.specs.Courses.{Step, move_to, Move, Course, course_at, base, next_move, after_step, after_steps}
use Rattle.directory.specs.Writes.{trail}
use Rattle.directory.specs.Amid.{course_of}
use Rattle.directory.specs.StepLaws.{last_stop-moved}

-- one step more
pub course-more : (setting : Setting) (sub : ℕ) (steps : List Step) (step : Step)
    → course_of setting sub (steps ++ step ∷ []) ≡ after_step setting (course_of setting sub steps) step
course-more setting sub steps step = grind (arith, fold-append)

pub base-more : (level : ℕ) (moves : List Move) (move : Move) → base level (moves ++ move ∷ [])
    ≡ cond (nat_le level move.renewed) move.number (base level moves)
base-more level moves move = grind (arith, fold-append)

-- a level was renewed by a move of the course, if by any
base-small : (setting : Setting) (course : Course) (steps : List Step) (level : ℕ)
    → base level course.moves ≤ length course.moves
    → base level (after_steps setting course steps).moves ≤ length (after_steps setting course steps).moves
base-small setting course [] level h = h
base-small setting course (move_to node ∷ steps) level h =
    let move = next_move setting course node in
    let more = base-more level course.moves move in
    let longer = length-append course.moves (move ∷ []) in
    base-small setting (after_step setting course (move_to node)) steps level (grind arith)
base-small setting course (step ∷ steps) level h = base-small setting (after_step setting course step) steps level h

pub base-within : (setting : Setting) (sub : ℕ) (steps : List Step) (level : ℕ)
    → base level (course_of setting sub steps).moves ≤ length (course_of setting sub steps).moves
base-within setting sub steps level = base-small setting (course_at (start setting sub)) steps level (omega arith)

-- what is in a list with one number more at its end
has-last : (xs : List ℕ) (x y : ℕ) → has x (xs ++ y ∷ []) ≡ (has x xs || x == y)
has-last xs x y = has-append x xs (y ∷ []) ∙ ap (λ b. has x xs || b) (or-false (x == y))

-- the trail after a move
pub trail-after : (setting : Setting) (sub : ℕ) (steps : List Step) (to after node : ℕ)
    → has node (trail setting (after_step setting (course_of setting sub steps) (move_to to))
    (next_move setting (after_step setting (course_of setting sub steps) (move_to to)) after))
    ≡ (cond (nat_le setting.top (next_move setting (course_of setting sub steps) to).renewed) false
    (has node (trail setting (course_of setting sub steps) (next_move setting (course_of setting sub steps) to)))
    || node == to)
trail-after setting sub steps to after node = grind (
  arith,
  nat_tests,
  base-more,
  last_stop-moved,
  drop_at,
  length-append,
  or-false,
  drop-append-le,
  base-within,
  map-append,
  has-last,
)
