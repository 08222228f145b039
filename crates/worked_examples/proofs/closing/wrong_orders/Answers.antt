use Rattle.std.proofs.Common.{◌≡◌, ℕ, List, [], ◌∷◌, map, ap, subst, refl, sym, ◌∙◌, arith}
use Rattle.std.specs.Prelude.{slice_index}
use Rattle.entry_word.specs.declared.visit.Visit.{Visit}
use Rattle.directory.specs.Histories.{History, IsFront, own}
use Rattle.worked_examples.proofs.Unlike.{cons-no}
use Rattle.worked_examples.proofs.closing.wrong_orders.Goals as goal

-- the actors of a history
abbrev actors : History → List ℕ
actors history = map (λ (visit : Visit). visit.actor) history

more-no : (x y z : ℕ) (xs : List ℕ) → ◌≡◌ {A = List ℕ} (x ∷ []) (y ∷ z ∷ xs) → ⊥
more-no x y z xs e = cc

-- a history without actors has no visit
none : (history : History) → [] ≡ actors history → history ≡ []
none [] e = refl
none (visit ∷ history) e = absurd (cons-no visit.actor (actors history) (sym e))

-- and one of one actor has one visit, by it
one : (actor : ℕ) (history : History) → actor ∷ [] ≡ actors history
    → (visit : Visit) × (visit.actor ≡ actor) × (history ≡ visit ∷ [])
one actor [] e = absurd (cons-no actor [] e)
one actor (visit ∷ []) e = (visit, sym (ap (λ (xs : List ℕ). slice_index xs 0) e), refl)
one actor (visit ∷ other ∷ history) e =
    absurd (more-no actor visit.actor other.actor (actors history) e)

pub returns-clause-missing : goal.returns-clause-missing
returns-clause-missing c = λ sub caller is_sub is_caller closed.
    let whole = subst (λ h. IsFront sub.view.seen h) (none closed.history closed.actors)
    (closed.seen 0 sub refl) in
    cons-no _ _ (subst (λ s. IsFront s []) is_sub.seen_is whole)

pub returns-clause-other : goal.returns-clause-other
returns-clause-other c = λ sub caller is_sub is_caller closed.
    let found = one 0 closed.history closed.actors in
    let whole = subst (λ h. IsFront caller.view.seen h) found.2 (closed.seen 1 caller refl) in
    let same = ap actors (subst (λ s. IsFront s (found.0 ∷ [])) is_caller.seen_is whole) in
    let e : ◌≡◌ {A = ℕ} 1 found.0.actor = ap (λ (xs : List ℕ). slice_index xs 0) same in
    let zeroth : ◌≡◌ {A = ℕ} found.0.actor 0 = found.1 in omega (arith, e, zeroth)

pub returns-clause-more : goal.returns-clause-more
returns-clause-more c = λ sub caller is_sub is_caller closed.
    let found = one 1 closed.history closed.actors in
    let by : own 1 closed.history ≡ own 1 caller.view.seen = subst (λ n. own n closed.history ≡ own n caller.view.seen)
    is_caller.low
    (closed.visits 1 caller refl) in
    let none_seen : own 1 closed.history ≡ [] = subst (λ s. own 1 closed.history ≡ own 1 s) is_caller.seen_is by in
    let alone : own 1 (found.0 ∷ []) ≡ [] = subst (λ h. own 1 h ≡ []) found.2 none_seen in
    let mine : own 1 (found.0 ∷ []) ≡ found.0 ∷ [] = rw found.1 refl in
    cons-no found.0 [] (sym mine ∙ alone)

pub returns-clause-unknown : goal.returns-clause-unknown
returns-clause-unknown c = λ passes closed.
    let found = one 2 closed.history closed.actors in
    let alone : own 2 (found.0 ∷ []) ≡ [] = subst (λ h. own 2 h ≡ []) found.2
    (closed.known 2 (omega arith)) in
    let mine : own 2 (found.0 ∷ []) ≡ found.0 ∷ [] = rw found.1 refl in
    cons-no found.0 [] (sym mine ∙ alone)
