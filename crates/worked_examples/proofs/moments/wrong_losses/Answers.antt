use Rattle.std.proofs.Common.{◌≡◌, ◌≢◌, ℕ, suc, ◌==◌, Bool, true, arith, refl, sym, ◌∙◌}
use Rattle.std.specs.Prelude.{slice_index}
use Rattle.atomic_table.specs.Table.{Me, State}
use Rattle.entry_word.specs.declared.visit.Act.{Act}
use Rattle.station.specs.Moments.{LostTurnsAreRead}
use Rattle.station.specs.Setup.{Setup, lock_word}
use Rattle.station.specs.declared.view.View.{View}
use Rattle.worked_examples.specs.Moments.{IsToldLost}
use Rattle.worked_examples.proofs.moments.wrong_losses.Goals as goal

-- the lock word is the one that is told, another's
is-read : LostTurnsAreRead → (setup : Setup) (place : ℕ) (change : ℕ → ℕ) (is_told : ℕ → Bool)
    (word : ℕ) (before : Me Act View) (state : State Act View)
    → IsToldLost setup place change is_told word before state
    → (slice_index state.words (lock_word 2) ≡ word) × (word ≢ 0) × (word ≢ suc before.0.low)
is-read law setup place change is_told word before state its =
    law setup 0 5 place 2 is_told change (λ found. word) before state its.known its.alone
    its.allowed its.kept its.homes its.was its.small its.tells

pub returns-clause-anothers : goal.returns-clause-anothers
returns-clause-anothers c = λ law setup place change before state its lock.
    let read = is-read law setup place change (λ found. true) 1 before state its in
    let e : ◌≡◌ {A = ℕ} 6 1 = sym lock ∙ read.0 in omega (arith, e)

pub returns-clause-free : goal.returns-clause-free
returns-clause-free c = λ law setup place change before state its lock.
    let read = is-read law setup place change (λ found. true) 1 before state its in
    let e : ◌≡◌ {A = ℕ} 0 1 = sym lock ∙ read.0 in omega (arith, e)

pub returns-clause-found_free : goal.returns-clause-found_free
returns-clause-found_free c = λ law setup change before state its lock.
    let read = is-read law setup (lock_word 2) change (λ found. found == 0) 1 before state its in
    let e : ◌≡◌ {A = ℕ} 0 1 = sym lock ∙ read.0 in omega (arith, e)

pub returns-clause-nobody : goal.returns-clause-nobody
returns-clause-nobody c = λ law setup place change before state its.
    (is-read law setup place change (λ found. true) 0 before state its).1 refl

pub returns-clause-own : goal.returns-clause-own
returns-clause-own c = λ law setup place change before state its.
    let read = is-read law setup place change (λ found. true) 5 before state its in
    read.2 (omega (arith, its.own))
