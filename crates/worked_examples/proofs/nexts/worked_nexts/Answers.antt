use Rattle.std.proofs.Common.{◌≡◌, ℕ, [], ◌∷◌, refl, arith}
use Rattle.std.specs.Prelude.{take}
use Rattle.directory.specs.Courses.{highest, move_to}
use Rattle.directory.specs.Puts.{steps_from}
use Rattle.directory.specs.Writes.{visits, writes}
use Rattle.plan_laws.specs.Examples.{line_setting}
use Rattle.worked_examples.proofs.nexts.worked_nexts.Goals as goal

pub returns-clause-due : goal.returns-clause-due
unfolding writes highest steps_from
returns-clause-due c = λ law visit next legal.
    law line_setting 0 (take 5 (visits line_setting 0 (move_to 2 ∷ []))) visit (omega arith) legal next

pub returns-clause-wide : goal.returns-clause-wide
returns-clause-wide c = λ law setting sub puts visit wide legal next.
    law setting sub puts visit (omega (arith, wide)) legal next

pub returns-clause-decided : goal.returns-clause-decided
unfolding writes highest steps_from
returns-clause-decided c = λ law visit legal.
    law line_setting 0 (take 5 (visits line_setting 0 (move_to 2 ∷ []))) visit (omega arith) legal

pub returns-clause-begins : goal.returns-clause-begins
unfolding writes highest steps_from
returns-clause-begins c = λ law visit next legal.
    law line_setting 0 (visits line_setting 0 (move_to 2 ∷ [])) (move_to 0) visit (omega arith) legal refl
    (record {
      inside = omega arith;
      moving = λ same. let e : ◌≡◌ {A = ℕ} 0 2 = same in omega (arith, e);
      is_on = refl;
      few = omega arith;
    }) next
