-- The run on the line of four: its puts are legal, and its finds are made.
use Rattle.std.proofs.Common.{List, [], ◌∷◌, refl, arith}
use Rattle.std.proofs.lemmas.List.Elements.{All-cons, All-nil}
use Rattle.busy_finds.specs.Altogether.{AreInTurn, MadeFind}
use Rattle.directory.specs.Courses.{course_at, highest, MayMove, MaySteps}
use Rattle.directory.specs.Histories.{before}
use Rattle.directory.specs.Legal.{IsLegal}
use Rattle.directory.specs.Looks.{AreLooks, IsFind}
use Rattle.directory.specs.Puts.{steps_from}
use Rattle.directory.specs.Writes.{writes}
use Rattle.entry_word.specs.declared.visit.Key.TheVariants.{Entry, Presence}
use Rattle.plan_laws.specs.Examples.{line_setting}
use Rattle.whole_cost.specs.Examples.{find_after, find_at_rest, find_in_passage, run_callers, run_history}
use Rattle.whole_cost.specs.WholeRuns.{AreMade}

-- the move may be made
moves : MayMove line_setting (course_at 3) 2
moves = record { inside = omega arith; moving = λ same. omega (arith, same); is_on = refl; few = omega arith }

pub run-legal : IsLegal line_setting 0 run_history
unfolding steps_from writes highest MaySteps
run-legal = record {
  script = record { known = omega arith; begins = omega arith; allowed = (moves, tt) };
  front = refl;
}

-- before the move no step is made
pub rest-legal : IsLegal line_setting 0 (before 4 run_history)
unfolding steps_from writes highest MaySteps
rest-legal = record {
  script = record { known = omega arith; begins = omega arith; allowed = tt };
  front = refl;
}

is-at-rest : IsFind line_setting run_history 1 find_at_rest.call find_at_rest.found find_at_rest.tickets
unfolding AreLooks writes highest
is-at-rest = record {
  looks = (
    omega arith,
    (
      Presence 0 0,
      refl,
      refl,
      (
        omega arith,
        (
          Entry 0 0 0,
          refl,
          refl,
          (
            omega arith,
            (
              Entry 1 0 0,
              refl,
              refl,
              (omega arith, (Presence 3 0, refl, refl, tt)),
            ),
          ),
        ),
      ),
    ),
  );
  answer = refl;
}

is-after : IsFind line_setting run_history 1 find_after.call find_after.found find_after.tickets
unfolding AreLooks writes highest
is-after = record {
  looks = (
    omega arith,
    (
      Presence 0 0,
      refl,
      refl,
      (
        omega arith,
        (
          Entry 0 0 0,
          refl,
          refl,
          (
            omega arith,
            (
              Presence 2 0,
              refl,
              refl,
              tt,
            ),
          ),
        ),
      ),
    ),
  );
  answer = refl;
}

is-in-passage : IsFind line_setting run_history 2 find_in_passage.call find_in_passage.found find_in_passage.tickets
unfolding AreLooks writes highest
is-in-passage = record {
  looks = (
    omega arith,
    (
      Presence 2 0,
      refl,
      refl,
      (
        omega arith,
        (
          Presence 3 0,
          refl,
          refl,
          (
            omega arith,
            (
              Presence 2 0,
              refl,
              refl,
              tt,
            ),
          ),
        ),
      ),
    ),
  );
  answer = refl;
}

-- both callers, each in turn
pub run-made : AreMade line_setting run_history 0 run_callers
run-made =
    let P : List MadeFind → Type 0 = AreInTurn line_setting run_history 0 0 in
    All-cons P (find_at_rest ∷ find_after ∷ []) ((find_in_passage ∷ []) ∷ [])
    (refl, omega arith, is-at-rest, omega arith, (refl, omega arith, is-after, omega arith, tt))
    (All-cons P (find_in_passage ∷ []) [] (refl, omega arith, is-in-passage, omega arith, tt) (All-nil P))

-- the first find by itself
is-alone : IsFind line_setting (before 4 run_history) 1 find_at_rest.call find_at_rest.found find_at_rest.tickets
unfolding AreLooks writes highest
is-alone = record {
  looks = (
    omega arith,
    (
      Presence 0 0,
      refl,
      refl,
      (
        omega arith,
        (
          Entry 0 0 0,
          refl,
          refl,
          (
            omega arith,
            (
              Entry 1 0 0,
              refl,
              refl,
              (omega arith, (Presence 3 0, refl, refl, tt)),
            ),
          ),
        ),
      ),
    ),
  );
  answer = refl;
}

pub alone-made : AreMade line_setting (before 4 run_history) 0 ((find_at_rest ∷ []) ∷ [])
alone-made =
    let P : List MadeFind → Type 0 = AreInTurn line_setting (before 4 run_history) 0 0 in
    All-cons P (find_at_rest ∷ []) [] (refl, omega arith, is-alone, omega arith, tt) (All-nil P)
