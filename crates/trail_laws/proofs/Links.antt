-- The moves of a course are linked: each begins where the one before ended, and is numbered after it.
use Rattle.std.proofs.Common.{◌≡◌, ℕ, suc, ◌+◌, ◌<◌, ◌≤◌, List, [], ◌∷◌, ◌++◌, length, fold, arith, length-append}
use Rattle.std.proofs.lemmas.Bool.{cases_Bool}
use Rattle.std.specs.Prelude.{nat_le, if◌then◌else◌}
use Rattle.directory.specs.Settings.{Setting}
use Rattle.directory.specs.Courses.{Step, move_to, Move, Course, last_stop, base, next_move, after_step, after_steps, MayStep, MaySteps}
use Rattle.directory.specs.StepLaws.{highest-low}

-- a move after this node and this number
pub record IsLink (setting : Setting) (from number : ℕ) (move : Move) : Type 0 where
  pub its_number : move.number ≡ suc number
  pub its_from : move.from ≡ from
  pub its_weight : move.weight ≡ setting.distance from move.to
  pub inside : move.to < setting.nodes

-- and moves after them, each behind the one before
abbrev pub AreLinked : Setting → ℕ → ℕ → List Move → Type 0
AreLinked setting from number [] = Unit {0}
AreLinked setting from number (move ∷ later) =
    IsLink setting from number move × AreLinked setting move.to (suc number) later

-- what is known of a course that was begun at a node of the network
pub record IsSound (setting : Setting) (course : Course) : Type 0 where
  pub begins : course.start < setting.nodes
  pub linked : AreLinked setting course.start 0 course.moves

pub linked-push : (setting : Setting) (from number : ℕ) (moves : List Move) (move : Move)
    → IsLink setting (fold (λ node (m : Move). m.to) from moves) (number + length moves) move
    → AreLinked setting from number moves → AreLinked setting from number (moves ++ move ∷ [])
linked-push setting from number [] move link linked =
    let e : number + 0 ≡ number = omega arith in (rw e at link, tt)
linked-push setting from number (first ∷ later) move link linked =
    let e : number + suc (length later) ≡ suc number + length later = omega arith in
    (linked.0, linked-push setting first.to (suc number) later move (rw e at link) linked.1)

pub last-inside : (setting : Setting) (from number : ℕ) (moves : List Move) → from < setting.nodes
    → AreLinked setting from number moves → fold (λ node (m : Move). m.to) from moves < setting.nodes
last-inside setting from number [] h linked = h
last-inside setting from number (move ∷ later) h linked =
    last-inside setting move.to (suc number) later linked.0.inside linked.1

-- a subscriber stands at a node of the network
pub stop-inside : {setting : Setting} {course : Course} → IsSound setting course → last_stop course < setting.nodes
stop-inside {setting} {course} sound = last-inside setting course.start 0 course.moves sound.begins sound.linked

pub renewed-low : (setting : Setting) (course : Course) (node : ℕ)
    → (next_move setting course node).renewed ≤ setting.top
renewed-low setting course node = highest-low _ setting.top

pub sound-step : {setting : Setting} {course : Course} (step : Step) → IsSound setting course
    → MayStep setting course step → IsSound setting (after_step setting course step)
sound-step {setting} {course} (move_to node) sound may = grind (arith, linked-push)
sound-step step sound may = record { begins = sound.begins; linked = sound.linked }

pub sound-steps : (setting : Setting) (course : Course) (steps : List Step) → IsSound setting course
    → MaySteps setting course steps → IsSound setting (after_steps setting course steps)
unfolding MaySteps
sound-steps setting course [] sound may = sound
sound-steps setting course (step ∷ steps) sound may = sound-steps setting (after_step setting course step) steps
    (sound-step step sound may.0) may.1

-- the last renewal of a level is one of the moves, or none
base-from : (level last from number : ℕ) (setting : Setting) (moves : List Move) → last ≤ number
    → AreLinked setting from number moves
    → fold (λ l (move : Move). if nat_le level move.renewed then move.number else l) last moves ≤ number + length
    moves
base-from level last from number setting [] low linked = omega (arith, low)
base-from level last from number setting (move ∷ later) low (link, linked) = grind (
  arith,
  base-from level move.number move.to (suc number) setting later (omega (arith, link.its_number)) linked,
  base-from level last move.to (suc number) setting later (omega (arith, low)) linked,
  cases_Bool,
)

pub base-low : {setting : Setting} {course : Course} (level : ℕ) → IsSound setting course
    → base level course.moves ≤ length course.moves
base-low {setting} {course} level sound = grind (arith, base-from)

-- one move more is moves-count
pub moves-count : (course : Course) (move : Move) → length (course.moves ++ move ∷ []) ≡ suc (length course.moves)
moves-count course move = omega (arith, length-append course.moves (move ∷ []))
