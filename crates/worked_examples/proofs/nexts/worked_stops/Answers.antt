use Rattle.std.proofs.Common.{◌≡◌, ℕ, zero, suc, List, [], ◌∷◌, refl, ap, ◌∙◌, arith}
use Rattle.directory.specs.Courses.{Step, after_steps, course_at, highest, move_to, stop}
use Rattle.directory.specs.Histories.{puts_to}
use Rattle.directory.specs.Orders.{steps_of}
use Rattle.directory.specs.Puts.{course_in}
use Rattle.directory.specs.Writes.{writes}
use Rattle.entry_word.specs.declared.visit.Key.TheVariants.{Presence}
use Rattle.plan_laws.specs.Examples.{line_scripts, line_setting}
use Rattle.worked_examples.specs.Examples.{find_from}
use Rattle.worked_examples.proofs.nexts.worked_stops.Goals as goal

pub returns-clause-stands : goal.returns-clause-stands
unfolding writes highest
returns-clause-stands c = λ law history legal shown one. law line_setting 0 history (omega arith) legal
    ∙ (ap (λ (n : ℕ). stop (course_in line_setting 0 (puts_to 0 history)) n) one
    ∙ ap (λ (steps : List Step). stop (after_steps line_setting (course_at 3) steps) 1) shown)

-- nobody makes a step
idle : (sub : ℕ) → steps_of (line_scripts [] (find_from 0 ∷ [])) sub ≡ []
idle zero = refl
idle (suc sub) = refl

pub returns-clause-opening : goal.returns-clause-opening
returns-clause-opening c = λ law history played.
    law line_setting (line_scripts [] (find_from 0 ∷ [])) history (Presence 3 0) idle played

pub returns-clause-lines : goal.returns-clause-lines
unfolding writes highest
returns-clause-lines c = λ law seen more six eight.
    law line_setting 0 (course_at 3) (move_to 2 ∷ []) (move_to 0) seen more six eight

pub returns-clause-near : goal.returns-clause-near
returns-clause-near c = λ law tracking valid order.
    law line_setting 3 2 (line_scripts (move_to 2 ∷ []) (find_from 2 ∷ [])) order (omega arith) tracking valid

pub returns-clause-wide : goal.returns-clause-wide
returns-clause-wide c = λ law setting scripts order wide tracking valid.
    law setting 3 2 scripts order (omega (arith, wide)) tracking valid
