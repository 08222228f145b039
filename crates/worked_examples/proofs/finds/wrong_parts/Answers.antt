use Rattle.std.proofs.Common.{◌≡◌, ℕ, ◌+◌, arith, sym, ◌∙◌, ap}
use Rattle.directory.specs.Parts.{LeadOn}
use Rattle.plan_laws.specs.Examples.{line_setting}
use Rattle.worked_examples.proofs.Square.{same}
use Rattle.worked_examples.proofs.Unlike.{none-no, some-no}
use Rattle.worked_examples.proofs.finds.wrong_parts.Goals as goal

pub returns-clause-address : goal.returns-clause-address
returns-clause-address c = λ are. some-no (record { number = 1; node = 1 }) are.0

pub returns-clause-later : goal.returns-clause-later
returns-clause-later c = λ are. some-no (record { number = 1; node = 1 }) are.1.0

pub returns-clause-here : goal.returns-clause-here
unfolding LeadOn
returns-clause-here c = λ known last_known last weight on. none-no on.0 on.2

pub returns-clause-coming : goal.returns-clause-coming
unfolding LeadOn
returns-clause-coming c = λ last_known last weight on. none-no on.0 on.2

pub returns-clause-to : goal.returns-clause-to
unfolding LeadOn
returns-clause-to c = λ last_known last weight on.
    sym (same 0 on.0 on.2 ∙ on.4.1)

pub returns-clause-way : goal.returns-clause-way
unfolding LeadOn
returns-clause-way c = λ last_known last weight on.
    let way = on.3 ∙ ap (λ (to : ℕ). line_setting.distance 3 to + on.1) (sym (same 0 on.0 on.2)) in
    let three : weight ≡ 3 + on.1 = way in
    omega (arith, three, on.4.2)

pub returns-clause-known : goal.returns-clause-known
unfolding LeadOn
returns-clause-known c = λ last_known last weight on. sym on.4.0
