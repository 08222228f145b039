use Rattle.std.proofs.Common.{[], ◌∷◌, refl, subst, arith}
use Rattle.entry_word.specs.declared.visit.Key.TheVariants.{Presence, Entry}
use Rattle.directory.specs.Courses.{course_at, highest, MayMove, MaySteps, move_to}
use Rattle.directory.specs.Legal.{IsLegal}
use Rattle.directory.specs.Looks.{AreLooks}
use Rattle.directory.specs.Puts.{steps_from}
use Rattle.directory.specs.Writes.{writes}
use Rattle.plan_laws.specs.Examples.{line_setting}
use Rattle.trail_laws.specs.Chased.{ChaseRises}
use Rattle.worked_examples.specs.Chases.{chase_before_commit, chase_over_commit}
use Rattle.worked_examples.proofs.chases.worked_chases.Goals as goal

pub returns-clause-there : goal.returns-clause-there
returns-clause-there c = λ law setting history call actor number tickets is.
    (subst ChaseRises is.4 (law setting history actor call tickets is.0 is.1 is.2 is.3)).0.0

pub returns-clause-back : goal.returns-clause-back
returns-clause-back c = λ law setting history call actor number tickets is.
    let all = subst ChaseRises is.4
    (law setting history actor call tickets is.0 is.1 is.2 is.3) in
    omega (arith, all.0.0)

pub returns-clause-on : goal.returns-clause-on
returns-clause-on c = λ law setting history call actor p q number tickets is.
    (subst ChaseRises is.4 (law setting history actor call tickets is.0 is.1 is.2 is.3)).1.0.0

pub returns-clause-above : goal.returns-clause-above
returns-clause-above c = λ law setting history call actor p q number tickets is.
    let all = subst ChaseRises is.4
    (law setting history actor call tickets is.0 is.1 is.2 is.3) in all.2.0.1.0

pub returns-clause-ended : goal.returns-clause-ended
returns-clause-ended c = λ law setting history call actor number tickets is.
    (subst ChaseRises is.4 (law setting history actor call tickets is.0 is.1 is.2 is.3)).0.0

-- the move may be made, and its puts so far are legal
may_move : MayMove line_setting (course_at 3) 2
may_move = record { inside = omega arith; moving = λ same. omega arith; is_on = refl; few = omega arith }

may : MaySteps line_setting (course_at 3) (move_to 2 ∷ [])
unfolding MaySteps
may = (may_move, tt)

before-legal : IsLegal line_setting 0 chase_before_commit
unfolding writes highest steps_from
before-legal = record {
  script = record { known = omega arith; begins = omega arith; allowed = may };
  front = refl;
}

over-legal : IsLegal line_setting 0 chase_over_commit
unfolding writes highest steps_from
over-legal = record {
  script = record { known = omega arith; begins = omega arith; allowed = may };
  front = refl;
}

pub returns-clause-before_commit : goal.returns-clause-before_commit
unfolding AreLooks writes highest steps_from
returns-clause-before_commit c = (
  omega arith,
  omega arith,
  before-legal,
  (
    omega arith,
    (
      Presence 1 0,
      refl,
      refl,
      (
        omega arith,
        (
          Entry 0 0 0,
          refl,
          refl,
          (
            omega arith,
            (Presence 2 0, refl, refl, (omega arith, (Presence 3 0, refl, refl, tt))),
          ),
        ),
      ),
    ),
  ),
  refl,
)

pub returns-clause-over_commit : goal.returns-clause-over_commit
unfolding AreLooks writes highest steps_from
returns-clause-over_commit c = (
  omega arith,
  omega arith,
  over-legal,
  (
    omega arith,
    (
      Presence 1 0,
      refl,
      refl,
      (
        omega arith,
        (
          Entry 0 0 0,
          refl,
          refl,
          (
            omega arith,
            (
              Presence 2 0,
              refl,
              refl,
              (
                omega arith,
                (Presence 3 0, refl, refl, (omega arith, (Presence 2 0, refl, refl, tt))),
              ),
            ),
          ),
        ),
      ),
    ),
  ),
  refl,
)

pub returns-clause-from_address : goal.returns-clause-from_address
returns-clause-from_address c = refl

pub returns-clause-from_coming : goal.returns-clause-from_coming
returns-clause-from_coming c = refl
