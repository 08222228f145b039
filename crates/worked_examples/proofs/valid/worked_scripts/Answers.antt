use Rattle.std.proofs.Common.{◌≡◌, ◌≢◌, ℕ, zero, suc, ◌<◌, false, List, [], ◌∷◌, length, refl, arith}
use Rattle.std.specs.Prelude.{All, map}
use Rattle.std.proofs.lemmas.List.Elements.{All-cons, All-nil}
use Rattle.directory.specs.Settings.{Setting}
use Rattle.directory.specs.Courses.{Step, Course, move_to, switch_off, switch_on, course_at, last_stop, after_step, after_steps, MayMove, MaySteps}
use Rattle.directory.specs.Legal.{IsScript}
use Rattle.directory.specs.Orders.{IsFindCall, steps_of}
use Rattle.plan_laws.specs.Examples.{line_scripts, line_setting}
use Rattle.worked_examples.specs.Examples.{MakeValidScripts, find_from, three, three_scripts, three_steps, worked_steps}
use Rattle.worked_examples.proofs.valid.worked_scripts.Goals as goal

-- scripts whose steps are allowed are valid
valid : (steps : List Step) → MaySteps line_setting (course_at 3) steps → MakeValidScripts steps
valid steps allowed finds are_finds = record {
  some = omega arith;
  count = refl;
  steps = λ sub below. at_sub sub below;
  finds = All-cons (All (IsFindCall line_setting)) finds [] are_finds (All-nil (All (IsFindCall line_setting)));
}
  where
    at_sub : (sub : ℕ) → sub < 1
        → IsScript line_setting sub (steps_of (line_scripts steps finds) sub)
    at_sub zero below = record { known = omega arith; begins = omega arith; allowed = allowed }
    at_sub (suc sub) below = absurd (omega arith)

-- a move of a short course
early : (setting : Setting) (course : Course) (node : ℕ) → node < setting.nodes → node ≢ last_stop course
    → course.is_off ≡ false → length course.moves < 9 → MayMove setting course node
early setting course node inside moving is_on few = record {
  inside = inside;
  moving = moving;
  is_on = is_on;
  few = omega
      arith;
}

-- and along the line
along : (course : Course) (node : ℕ) → node < 4 → node ≢ last_stop course → course.is_off ≡ false
    → length course.moves < 9 → MayMove line_setting course node
along = early line_setting

two_first : MayMove line_setting (course_at 3) 2
two_first = along (course_at 3) 2 (omega arith) (λ same. omega arith) refl (omega arith)

-- what holds of each of a list, as a row of proofs
Each : {A : Type 0} → (A → Type 0) → List A → Type 0
Each P [] = Unit {0}
Each P (x ∷ xs) = P x × Each P xs

all_of : {A : Type 0} (P : A → Type 0) (xs : List A) → Each P xs → All P xs
unfolding Each
all_of P [] row = All-nil P
all_of P (x ∷ xs) row = All-cons P x xs row.0 (all_of P xs row.1)

abbrev moved : Course
moved = after_step line_setting (course_at 3) (move_to 2)

at_two : last_stop moved ≡ 2
at_two = refl

abbrev returned : Course
returned = after_step line_setting moved (move_to 3)

at_three : last_stop returned ≡ 3
at_three = refl

abbrev switched : Course
switched = after_steps line_setting (course_at 3) (switch_off ∷ switch_on ∷ [])

still_at_three : last_stop switched ≡ 3
still_at_three = refl

back_at_three : MayMove line_setting moved 3
back_at_three = along moved 3 (omega arith) (λ same. omega (arith, at_two)) refl (omega arith)

two_again : MayMove line_setting returned 2
two_again = along returned 2 (omega arith) (λ same. omega (arith, at_three)) refl (omega arith)

two_later : MayMove line_setting switched 2
two_later = along switched 2 (omega arith) (λ same. omega (arith, still_at_three)) refl (omega arith)

pub returns-clause-steps : goal.returns-clause-steps
unfolding MaySteps Each
returns-clause-steps c = all_of MakeValidScripts worked_steps (
  valid [] tt,
  (
    valid (move_to 2 ∷ []) (two_first, tt),
    (
      valid (move_to 2 ∷ move_to 0 ∷ [])
          (two_first, (along moved 0 (omega arith) (λ same. omega (arith, at_two)) refl (omega arith), tt)),
      (
        valid (move_to 2 ∷ move_to 3 ∷ []) (two_first, (back_at_three, tt)),
        (
          valid (switch_off ∷ []) (refl, tt),
          (
            valid (switch_off ∷ switch_on ∷ []) (refl, (refl, tt)),
            (
              valid (move_to 2 ∷ switch_off ∷ switch_on ∷ []) (two_first, (refl, (refl, tt))),
              (
                valid (move_to 2 ∷ move_to 3 ∷ move_to 2 ∷ [])
                    (two_first, (back_at_three, (two_again, tt))),
                (
                  valid (switch_off ∷ switch_on ∷ move_to 2 ∷ []) (refl, (refl, (two_later, tt))),
                  (
                    valid (switch_off ∷ switch_on ∷ move_to 2 ∷ switch_off ∷ [])
                        (refl, (refl, (two_later, (refl, tt)))),
                    tt,
                  ),
                ),
              ),
            ),
          ),
        ),
      ),
    ),
  ),
)

one_find : (node : ℕ) → node < 4 → IsFindCall line_setting (find_from node)
one_find node inside = record { inside = inside; known = omega arith }

pub returns-clause-finds : goal.returns-clause-finds
unfolding Each
returns-clause-finds c = all_of (IsFindCall line_setting) (map find_from (0 ∷ 1 ∷ 2 ∷ 3 ∷ []))
    (one_find 0 (omega arith), (one_find 1 (omega arith), (one_find 2 (omega arith), (one_find 3 (omega arith), tt))))

-- the course of the three nodes after its first, second and third move
abbrev three_after : List Step → Course
three_after steps = after_steps three (course_at 0) steps

three_allowed : MaySteps three (course_at 0) three_steps
unfolding MaySteps
three_allowed = (
  early three (three_after []) 1 (omega arith) (λ same. omega arith) refl (omega arith),
  (
    early three (three_after (move_to 1 ∷ [])) 2 (omega arith) (λ same. omega arith) refl (omega arith),
    (
      early three (three_after (move_to 1 ∷ move_to 2 ∷ [])) 0 (omega arith) (λ same. omega arith) refl
          (omega arith),
      (
        early three (three_after (move_to 1 ∷ move_to 2 ∷ move_to 0 ∷ [])) 1 (omega arith)
            (λ same. omega arith) refl (omega arith),
        tt,
      ),
    ),
  ),
)

pub returns-clause-on_three : goal.returns-clause-on_three
returns-clause-on_three c = record {
  some = omega arith;
  count = refl;
  steps = λ sub below. at_sub sub below;
  finds = All-nil (All (IsFindCall three));
}
  where
    at_sub : (sub : ℕ) → sub < 1 → IsScript three sub (steps_of three_scripts sub)
    at_sub zero below = record { known = omega arith; begins = omega arith; allowed = three_allowed }
    at_sub (suc sub) below = absurd (omega arith)
