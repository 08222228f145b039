use Rattle.std.proofs.Common.{◌<◌, true, refl, arith}
use Rattle.std.specs.Prelude.{None, codes}
use Rattle.directory.specs.declared.answers.Done.TheVariants.{Found, Switched}
use Rattle.report_check.specs.declared.slots.Slot.TheVariants.{Switch}
use Rattle.report_check.specs.Examples.{◌then◌}
use Rattle.report_check.proofs.Judged.{judged}
use Rattle.report_check.proofs.examples.example_readings.Goals as goal

pub returns-clause-word : goal.returns-clause-word
unfolding judged
returns-clause-word c = refl

pub returns-clause-short_word : goal.returns-clause-short_word
unfolding judged
returns-clause-short_word c = refl

pub returns-clause-number : goal.returns-clause-number
unfolding judged
returns-clause-number c = refl

pub returns-clause-limit : goal.returns-clause-limit
unfolding judged
returns-clause-limit c = refl

pub returns-clause-zeros : goal.returns-clause-zeros
unfolding judged
returns-clause-zeros c = refl

pub returns-clause-no_blank : goal.returns-clause-no_blank
unfolding judged
returns-clause-no_blank c = refl

pub returns-clause-call : goal.returns-clause-call
unfolding judged
returns-clause-call c = refl

pub returns-clause-other_slot : goal.returns-clause-other_slot
unfolding judged
returns-clause-other_slot c = refl

pub returns-clause-begins : goal.returns-clause-begins
returns-clause-begins c = λ law text is. (law (codes "end") text (codes " 9")).0 is

pub returns-clause-stands : goal.returns-clause-stands
returns-clause-stands c = λ law. (law (codes "end") (codes "end 9") (codes " 9")).1 refl

pub returns-clause-digits : goal.returns-clause-digits
unfolding judged
returns-clause-digits c = λ law text is. ((law 80 79 text (codes " x") (omega arith)).0 is).2

pub returns-clause-below : goal.returns-clause-below
returns-clause-below c = λ law n text rest is. ((law 80 n text rest (omega arith)).0 is).0

pub returns-clause-stops : goal.returns-clause-stops
returns-clause-stops c = λ law n text rest is. ((law 80 n text rest (omega arith)).0 is).1

pub returns-clause-written : goal.returns-clause-written
unfolding judged
returns-clause-written c = λ law. (law 80 79 (codes " 79 x") (codes " x") (omega arith)).1 (omega arith, refl, refl)

pub returns-clause-line : goal.returns-clause-line
unfolding judged
returns-clause-line c = λ law text is.
    ((law (record { nodes = 4; levels = 3 }) (Switch 0 true 3 1) text (codes "end 7") (Switched 0 true 3 1 6)
    (omega arith) (omega arith)).0 is).2

pub returns-clause-own_slot : goal.returns-clause-own_slot
returns-clause-own_slot c = λ law slot text rest is.
    ((law (record { nodes = 4; levels = 3 }) slot text rest (Switched 0 true 3 1 6) (omega arith) (omega arith)).0 is).0

pub returns-clause-in_bounds : goal.returns-clause-in_bounds
returns-clause-in_bounds c = λ law slot text rest is.
    let low : 4 < 4 = ((law (record { nodes = 4; levels = 3 }) slot text rest (Found 3 1 0 4 1 None 0 0 0)
    (omega arith) (omega arith)).0 is).1.0.0 in omega (arith, low)

pub returns-clause-line_read : goal.returns-clause-line_read
unfolding judged
returns-clause-line_read c = λ law.
    (law (record { nodes = 4; levels = 3 }) (Switch 0 true 3 1)
    (codes "switch 0 off 3 number 1 ticket 6" then codes "end 7") (codes "end 7") (Switched 0 true 3 1 6)
    (omega arith) (omega arith)).1 (refl, omega arith, refl)
