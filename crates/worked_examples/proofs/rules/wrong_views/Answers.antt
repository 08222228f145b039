use Rattle.std.proofs.Common.{◌≡◌, ℕ, arith, List, [], ◌∷◌, ◌++◌, length, drop, refl, sym, ap, ◌∙◌, subst}
use Rattle.std.specs.List.{Contains}
use Rattle.std.proofs.lemmas.List.Elements.{Contains-push}
use Rattle.station.specs.Turns.{events_of, lost_in}
use Rattle.station.specs.Views.{turn_at}
use Rattle.station.specs.declared.view.NodeTurn.{NodeTurn}
use Rattle.station.specs.declared.view.TurnEvent.{TurnEvent}
use Rattle.station.specs.declared.view.TurnEvent.TheVariants.{Lost, Won}
use Rattle.worked_examples.proofs.rules.wrong_views.Goals as goal

-- nothing goes on from nothing alone
nothing : (xs ys : List TurnEvent) → [] ≡ xs ++ ys → xs ≡ []
nothing [] ys e = refl
nothing (x ∷ xs) ys e = absurd (omega (arith, ap length e))

pub returns-clause-own : goal.returns-clause-own
returns-clause-own c = λ setup words history owner seat view low high lost sound.
    sound.others 5 (omega (arith, low), omega (arith, high)) (turn_at 2 6) (subst (λ
    (l : List NodeTurn). Contains l (turn_at 2 6)) (sym lost) (Contains-push [] (turn_at 2 6))) refl

pub returns-clause-unlogged : goal.returns-clause-unlogged
returns-clause-unlogged c = λ view low high lost has.
    let none-seen : view.turns ≡ [] = nothing view.turns has.later has.goes_on in
    let same : turn_at 2 6 ∷ [] ≡ [] = sym lost ∙ (has.lost 0 (omega (arith, low), omega (arith, high))
    ∙ ap (λ (l : List TurnEvent). lost_in (events_of 0 l)) none-seen) in
    let e : ◌≡◌ {A = ℕ} 1 0 = ap length same in omega (arith, e)

pub returns-clause-untold : goal.returns-clause-untold
returns-clause-untold c = λ view low high turns has.
    let both : Won 5 2 ∷ Lost 0 2 6 ∷ [] ≡ (Won 5 2 ∷ []) ++ has.later = has.goes_on
    ∙ ap (λ (l : List TurnEvent). l ++ has.later) turns in
    let later : Lost 0 2 6 ∷ [] ≡ has.later = ap (drop 1) both in
    let same : Lost 0 2 6 ∷ [] ≡ [] = ap (events_of 0) later
    ∙ has.by_others 0 (omega (arith, low), omega (arith, high)) in
    let e : ◌≡◌ {A = ℕ} 1 0 = ap length same in omega (arith, e)

pub returns-clause-again : goal.returns-clause-again
returns-clause-again c = λ view low high turns lost has.
    let same : turn_at 2 6 ∷ turn_at 2 6 ∷ [] ≡ turn_at 2 6 ∷ [] = sym lost
    ∙ (has.lost 0 (omega (arith, low), omega (arith, high))
    ∙ ap (λ (l : List TurnEvent). lost_in (events_of 0 l)) turns) in
    let e : ◌≡◌ {A = ℕ} 2 1 = ap length same in omega (arith, e)

pub returns-clause-locked : goal.returns-clause-locked
returns-clause-locked c = λ setup state rule. rule.lock_words

pub returns-clause-strangers : goal.returns-clause-strangers
returns-clause-strangers c = λ setup state rule. rule.strangers

pub returns-clause-witnessed : goal.returns-clause-witnessed
returns-clause-witnessed c = λ view seen. seen.kept

pub returns-clause-seat : goal.returns-clause-seat
returns-clause-seat c = λ view seen. seen.view_is
