use Rattle.std.proofs.Common.{◌≡◌, ℕ, arith, [], ◌∷◌, refl}
use Rattle.station.specs.declared.view.TurnEvent.TheVariants.{GivenBack, Lost, Won}
use Rattle.worked_examples.proofs.rules.wrong_logs.Goals as goal

pub returns-clause-free : goal.returns-clause-free
returns-clause-free c = λ log. let e : ◌≡◌ {A = ℕ} 0 6 = (log [] (Lost 0 2 6) [] refl).0 in omega (arith, e)

pub returns-clause-given_back : goal.returns-clause-given_back
returns-clause-given_back c = λ log.
    let e : ◌≡◌ {A = ℕ} 0 6 = (log (Won 5 2 ∷ GivenBack 5 2 ∷ []) (Lost 0 2 6) [] refl).0 in omega (arith, e)

pub returns-clause-elsewhere : goal.returns-clause-elsewhere
returns-clause-elsewhere c = λ log.
    let e : ◌≡◌ {A = ℕ} 0 6 = (log (Won 5 1 ∷ []) (Lost 0 2 6) [] refl).0 in omega (arith, e)

pub returns-clause-other : goal.returns-clause-other
returns-clause-other c = λ log.
    let e : ◌≡◌ {A = ℕ} 5 6 = (log (Won 4 2 ∷ []) (Lost 0 2 6) [] refl).0 in omega (arith, e)

pub returns-clause-nobody : goal.returns-clause-nobody
returns-clause-nobody c = λ log. (log [] (Lost 0 2 0) [] refl).1 refl

pub returns-clause-own : goal.returns-clause-own
returns-clause-own c = λ log. (log (Won 0 2 ∷ []) (Lost 0 2 1) [] refl).2 refl

pub returns-clause-twice : goal.returns-clause-twice
returns-clause-twice c = λ log.
    let e : ◌≡◌ {A = ℕ} 1 0 = log (Won 0 2 ∷ []) (Won 1 2) [] refl in omega (arith, e)

pub returns-clause-not_its_own : goal.returns-clause-not_its_own
returns-clause-not_its_own c = λ log.
    let e : ◌≡◌ {A = ℕ} 1 2 = log (Won 0 2 ∷ []) (GivenBack 1 2) [] refl in omega (arith, e)
