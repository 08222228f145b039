-- After each move of a course each level has gathered less than its threshold.
use Rattle.std.proofs.lemmas.Bool.{cases_Bool, cases_eq, cases_lt}
use Rattle.std.proofs.Common.{◌≡◌, inl, inr, ℕ, zero, suc, ◌+◌, ◌<◌, ◌≤◌, Bool, false, List, [], ◌∷◌, ◌++◌, arith, length-append}
use Rattle.std.specs.Prelude.{nat_le}
use Rattle.std.proofs.lemmas.Bool.Decides.{nat_tests}
use Rattle.std.proofs.lemmas.List.{take_all, take-append-le}
use Rattle.std.proofs.Math.ListN.{drop_of_length-le}
use Rattle.directory.specs.Settings.{levels, Setting}
use Rattle.directory.specs.Histories.{History, puts_to}
use Rattle.directory.specs.Courses.{after_step, after_steps, base, Course, gathered_weight, highest, MaySteps, Move, move_to, next_move, Step}
use Rattle.directory.specs.Legal.{IsLegal}
use Rattle.directory.specs.Puts.{course_in}
use Rattle.trail_laws.proofs.Links.{IsSound, base-low, sound-step}
use Rattle.trail_laws.proofs.ClosedMarks.{base-with}
use Rattle.trail_laws.proofs.LinkedStops.{weight_from}
use Rattle.trail_laws.proofs.Prices.{AreLazy, weight-push}

-- above the highest level that passes a test no level passes it
highest-above : (test : ℕ → Bool) (limit level : ℕ) → highest test limit < level → level < limit → test level ≡ false
unfolding highest
highest-above test zero level above below = absurd (omega arith)
highest-above test (suc limit) level above below =
    grind (arith, cases_Bool (test limit), cases_eq level limit, highest-above test limit level)

-- one more move
lazy-push : (setting : Setting) (moves : List Move) (move : Move) → AreLazy setting moves
    → ((level : ℕ) → level ≤ setting.top
    → weight_from (moves ++ move ∷ []) (base level (moves ++ move ∷ [])) < setting.threshold level)
    → AreLazy setting (moves ++ move ∷ [])
lazy-push setting moves move lazy whole k level low below =
    grind (arith, cases_lt, move, length-append, take_all, take-append-le)

-- a move renews each level that reaches its threshold
lazy-whole_move : {setting : Setting} {course : Course} (node level : ℕ) → IsSound setting course
    → ((i : ℕ) → i ≤ setting.top → 1 ≤ setting.threshold i) → level ≤ setting.top
    → weight_from (course.moves ++ next_move setting course node ∷ [])
    (base level (course.moves ++ next_move setting course node ∷ [])) < setting.threshold level
lazy-whole_move {setting} {course} node level sound some below =
    elim (cases_Bool (nat_le level move.renewed)) [
      | inl e ↦
          grind (arith, move, drop_of_length-le, length-append, base-with)
      | inr e ↦
          grind (
            arith,
            nat_tests,
            highest-above test (levels setting) level,
            base-with,
            weight-push course.moves move (base level course.moves) (base-low level sound),
          )
    ]
  where
    move : Move
    move = next_move setting course node

    test : ℕ → Bool
    test l = nat_le (setting.threshold l) (gathered_weight course l + move.weight)

lazy-step : {setting : Setting} {course : Course} (step : Step) → IsSound setting course
    → ((i : ℕ) → i ≤ setting.top → 1 ≤ setting.threshold i) → AreLazy setting course.moves
    → AreLazy setting (after_step setting course step).moves
lazy-step {setting} {course} (move_to node) sound some lazy = grind (arith, lazy-push, lazy-whole_move)
lazy-step step sound some lazy = lazy

lazy-steps : (setting : Setting) (course : Course) (steps : List Step) → IsSound setting course
    → MaySteps setting course steps → ((i : ℕ) → i ≤ setting.top → 1 ≤ setting.threshold i)
    → AreLazy setting course.moves → AreLazy setting (after_steps setting course steps).moves
unfolding MaySteps
lazy-steps setting course [] sound may some lazy = lazy
lazy-steps setting course (step ∷ steps) sound may some lazy =
    lazy-steps setting (after_step setting course step) steps (sound-step step sound may.0) may.1 some
    (lazy-step step sound some lazy)

-- so it is after the puts of a legal history
pub legal-lazy : {setting : Setting} {sub : ℕ} (history : History)
    → ((i : ℕ) → i ≤ setting.top → 1 ≤ setting.threshold i) → IsLegal setting sub history
    → AreLazy setting (course_in setting sub (puts_to sub history)).moves
legal-lazy {setting} {sub} history some legal = grind (arith, lazy-steps)
