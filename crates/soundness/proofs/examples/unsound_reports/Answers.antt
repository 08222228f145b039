use Rattle.std.proofs.Common.{◌≡◌, ℕ, ◌≤◌, Bool, true, false, List, [], ◌∷◌, ◌++◌, Option, Some, ap, ◌∙◌, arith}
use Rattle.std.specs.Prelude.{slice_index}
use Rattle.directory.specs.declared.answers.Done.{Done}
use Rattle.directory.specs.declared.answers.Done.TheVariants.{Moved}
use Rattle.soundness.specs.Examples.{find_amid, find_far, find_there, first_move, second_move}
use Rattle.soundness.specs.Turns.{tickets_from}
use Rattle.soundness.proofs.examples.unsound_reports.Goals as goal

pub returns-clause-number : goal.returns-clause-number
returns-clause-number c = λ s.
    let are = s.lines_are in
    let front : Moved 0 2 3 0 3 0 1 4 ∷ second_move ∷ find_amid ∷ find_there ∷ find_far ∷ []
    ≡ (are.3.0 ∷ are.3.1) ++ are.1 = are.2 ∙ ap (λ (own : List Done). own ++ are.1) are.3.2 in
    let line : are.3.0 ≡ Moved 0 1 3 0 are.3.3.0 are.3.3.1 are.3.3.2 are.3.3.3 = are.3.3.4 in
    let bad : ◌≡◌ {A = ℕ} 2 1 = cc in omega (arith, bad)

pub returns-clause-ticket : goal.returns-clause-ticket
unfolding tickets_from
returns-clause-ticket c = λ s.
    let runs = s.tickets 2 in
    let end : runs.0 ≡ 1 = omega (arith, runs.3) in
    let bad : 10 ≡ 8 = runs.2.2 ∙ ap (slice_index (7 ∷ 8 ∷ [])) end in omega (arith, bad)

pub returns-clause-place : goal.returns-clause-place
returns-clause-place c = λ s.
    let bad : ◌≡◌ {A = Option ℕ} (Some 0) (Some 3) = (s.places 2 first_move (omega arith)).node_is in
    let same : ◌≡◌ {A = ℕ} 0 3 = cc in omega (arith, same)

pub returns-clause-count : goal.returns-clause-count
returns-clause-count c = λ s.
    let bad : 1 ≡ 0 = (s.places 2 first_move (omega arith)).number_is in omega (arith, bad)

pub returns-clause-state : goal.returns-clause-state
returns-clause-state c = λ s.
    let bad : ◌≡◌ {A = Option Bool} (Some false) (Some true) = (s.places 2 first_move (omega arith)).off_is in absurd cc

pub returns-clause-needless : goal.returns-clause-needless
returns-clause-needless c = λ s.
    let met = s.again 2 first_move (omega arith) in omega (arith, met.1, met.2)

pub returns-clause-far : goal.returns-clause-far
returns-clause-far c = λ s.
    let bad : 4 ≡ 3 = s.weights 0 second_move (omega arith) in omega (arith, bad)

pub returns-clause-heavy : goal.returns-clause-heavy
unfolding tickets_from
returns-clause-heavy c = λ s.
    let bad : 291 ≤ 290 = s.weights 4 first_move (omega arith) (λ met. omega (arith, met.1, met.2)) in
    omega (arith, bad)

pub returns-clause-early : goal.returns-clause-early
returns-clause-early c = λ h.
    let e : 0 ∷ 1 ∷ [] ≡ 1 ∷ 0 ∷ h.0 = h.1 in
    let bad : ◌≡◌ {A = ℕ} 0 1 = cc in omega (arith, bad)
