-- The last ticket of each actor: while they are found, and asked of.
use Rattle.std.proofs.lemmas.Bool.{eqb-false, leb-false, leb-true, ne_eqb, or_from, or_parts}
use Rattle.std.proofs.Common.{◌≡◌, ◌≢◌, ℕ, zero, suc, ◌+◌, ◌-◌, ◌<◌, ◌≤◌, Bool, true, false, cond, eqb, leb, List, [], ◌∷◌, ◌++◌, length, take, drop, get_or, set, length-set, length-take, length-drop, Some, None, refl, ap, sym, subst, ◌∙◌, arith}
use Rattle.std.specs.List.{list_any}
use Rattle.std.proofs.lemmas.Bool.Decides.{Decides-eqb}
use Rattle.std.proofs.lemmas.List.{drop-append-le, drop-drop, drop_all, get_or-drop, get_or-set_other, get_or-set_same, take_more}
use Rattle.std.proofs.lemmas.List.Folds.{list_any-append}
use Rattle.directory.specs.declared.answers.Done.{Done}
use Rattle.report_check.specs.Blocks.{AreBehind, IsBehind}
use Rattle.directory.specs.CallLines.{actor_of}
use Rattle.report_check.specs.Parts.{end_of, first_from, is_missing, none_left}
use Rattle.report_check.proofs.Blocking.{swapped}

-- ---- the last tickets

first-never : (actor ticket : ℕ) (later : List ℕ) → list_any (λ other. eqb other actor) later ≡ false
    → first_from actor ticket later ≡ None
unfolding first_from
first-never actor ticket [] e = refl
first-never actor ticket (other ∷ later) e =
    let both = or_parts (eqb other actor) (list_any (λ x. eqb x actor) later) e in
    ap (λ b. cond b (Some ticket) (first_from actor (suc ticket) later)) both.0
    ∙ first-never actor (suc ticket) later both.1

first-once : {actor : ℕ} (ticket : ℕ) (later : List ℕ) (j d : ℕ) → j < length later → get_or later j d ≡ actor
    → is_missing (first_from actor ticket later) ≡ false
unfolding first_from
first-once ticket [] j d low e = absurd (omega (arith, low))
first-once {actor} ticket (other ∷ later) zero d low e =
    ap (λ b. is_missing (cond b (Some ticket) (first_from actor (suc ticket) later))) ((Decides-eqb other actor).1 e)
first-once {actor} ticket (other ∷ later) (suc j) d low e =
    at (eqb other actor) (first-once (suc ticket) later j d (omega (arith, low)) e)
  where
    at : (same : Bool) → is_missing (first_from actor (suc ticket) later) ≡ false
        → is_missing (cond same (Some ticket) (first_from actor (suc ticket) later)) ≡ false
    at true h = refl
    at false h = h

-- ---- the last tickets while they are found

pub record IsBehindSoFar (order : List ℕ) (ticket actor n : ℕ) : Type 0 where
  pub few : n ≤ ticket
  pub none : list_any (λ other. eqb other actor) (drop n (take ticket order)) ≡ false
  pub last : n ≢ 0 → get_or order (n - 1) 0 ≡ actor

behind-other : {order : List ℕ} {ticket actor n : ℕ} → ticket < length order → IsBehindSoFar order ticket actor n
    → eqb (get_or order ticket 0) actor ≡ false → IsBehindSoFar order (ticket + 1) actor n
behind-other {order} {ticket} {actor} {n} low is other =
    let p : ℕ → Bool = λ x. eqb x actor in
    let more : drop n (take (ticket + 1) order) ≡ drop n (take ticket order) ++ get_or order ticket 0 ∷ [] =
    ap (drop n) (take_more order ticket 0 low)
    ∙ drop-append-le n (take ticket order) (get_or order ticket 0 ∷ [])
    (omega (arith, is.few, length-take ticket order, low)) in
    record {
      few = omega (arith, is.few);
      none = ap (list_any p) more ∙ list_any-append p (drop n (take ticket order)) (get_or order ticket 0 ∷ [])
          ∙ or_from (list_any p (drop n (take ticket order))) (list_any p (get_or order ticket 0 ∷ [])) is.none
          (or_from (eqb (get_or order ticket 0) actor) false other refl);
      last = is.last;
    }

behind-own : (order : List ℕ) (ticket : ℕ) {actor : ℕ} → get_or order ticket 0 ≡ actor
    → IsBehindSoFar order (ticket + 1) actor (ticket + 1)
behind-own order ticket {actor} own = record {
  few = omega arith;
  none = ap (list_any (λ other. eqb other actor)) (drop_all (ticket + 1) (take (ticket + 1) order)
      (omega (arith, length-take (ticket + 1) order)));
  last = λ some. ap (λ (i : ℕ). get_or order i 0) (before ticket) ∙ own;
}
  where
    before : (t : ℕ) → t + 1 - 1 ≡ t
    before t = omega arith

pub behind-more : {order : List ℕ} (behind : List ℕ) {behind' : List ℕ} {ticket actor : ℕ} → ticket < length order
    → actor ≡ get_or order ticket 0 → actor < length behind → behind' ≡ set behind actor (ticket + 1)
    → ((a : ℕ) → a < length behind → IsBehindSoFar order ticket a (get_or behind a 0)) → (a : ℕ) → a < length behind'
    → IsBehindSoFar order (ticket + 1) a (get_or behind' a 0)
behind-more {order} behind {behind'} {ticket} {actor} low whose known same is a few = at (eqb a actor) refl
  where
    count : length behind' ≡ length behind
    count = ap length same ∙ length-set behind actor (ticket + 1)

    at : (own : Bool) → eqb a actor ≡ own → IsBehindSoFar order (ticket + 1) a (get_or behind' a 0)
    at true e =
        let own : a ≡ actor = (Decides-eqb a actor).0 e in
        let value : get_or behind' a 0 ≡ ticket + 1 =
        ap (λ bs. get_or bs a 0) same ∙ ap (λ (x : ℕ). get_or (set behind x (ticket + 1)) a 0) (sym own)
        ∙ get_or-set_same behind a (ticket + 1) 0 (omega (arith, few, count)) in
        subst (IsBehindSoFar order (ticket + 1) a) (sym value) (behind-own order ticket (sym whose ∙ sym own))
    at false e =
        let value : get_or behind' a 0 ≡ get_or behind a 0 =
        ap (λ bs. get_or bs a 0) same ∙ get_or-set_other behind actor a (ticket + 1) 0 (eqb-false a actor e) in
        subst (IsBehindSoFar order (ticket + 1) a) (sym value)
        (behind-other low (is a (omega (arith, few, count))) (ap (λ x. eqb x a) (sym whose) ∙ swapped a actor e))

-- a ticket of an actor that isn't asked for
pub behind-past : {order : List ℕ} (behind : List ℕ) {ticket actor : ℕ} → ticket < length order
    → actor ≡ get_or order ticket 0 → length behind ≤ actor
    → ((a : ℕ) → a < length behind → IsBehindSoFar order ticket a (get_or behind a 0)) → (a : ℕ) → a < length behind
    → IsBehindSoFar order (ticket + 1) a (get_or behind a 0)
behind-past behind {actor} low whose unknown is a few =
    behind-other low (is a few) (ap (λ x. eqb x a) (sym whose)
    ∙ ne_eqb actor a (λ same. omega (arith, same, few, unknown)))

any-behind : (p : ℕ → Bool) (xs : List ℕ) (k : ℕ) → list_any p xs ≡ false → list_any p (drop k xs) ≡ false
any-behind p xs zero e = e
any-behind p [] (suc k) e = e
any-behind p (x ∷ xs) (suc k) e = any-behind p xs k (or_parts (p x) (list_any p xs) e).1

-- the test of whether an actor has a ticket behind another
pub none-behind : {order : List ℕ} {actor n : ℕ} (end : ℕ) → IsBehind order actor n
    → leb n (suc end) ≡ is_missing (first_from actor (suc end) (drop (suc end) order))
none-behind {order} {actor} {n} end is = at (leb n (suc end)) refl
  where
    same : n ≤ suc end → n + (suc end - n) ≡ suc end
    same h = omega (arith, h)

    place : suc end < n → suc end + (n - 1 - suc end) ≡ n - 1
    place h = omega (arith, h)

    some : suc end < n → n ≢ 0
    some h e = omega (arith, h, e)

    at : (low : Bool) → leb n (suc end) ≡ low
        → low ≡ is_missing (first_from actor (suc end) (drop (suc end) order))
    at true e =
        let low : n ≤ suc end = leb-true n (suc end) e in
        sym (ap is_missing (first-never actor (suc end) (drop (suc end) order)
        (ap (λ (k : ℕ). list_any (λ other. eqb other actor) (drop k order)) (sym (same low))
        ∙ ap (list_any (λ other. eqb other actor)) (sym (drop-drop (suc end - n) n order))
        ∙ any-behind (λ other. eqb other actor) (drop n order) (suc end - n) is.none)))
    at false e =
        let high : suc end < n = leb-false n (suc end) e in
        sym (first-once (suc end) (drop (suc end) order) (n - 1 - suc end) 0
        (omega (arith, high, is.few, length-drop (suc end) order))
        (get_or-drop (suc end) order (n - 1 - suc end) 0 ∙ ap (λ (i : ℕ). get_or order i 0) (place high)
        ∙ is.last (some high)))

pub none-line : (order behind : List ℕ) (call : Done) {actor end n : ℕ} {low : Bool} → AreBehind order behind
    → actor < length behind → n ≡ get_or behind actor 0 → actor ≡ actor_of call → end ≡ end_of call
    → low ≡ leb n (suc end) → low ≡ none_left order call
none-line order behind call {actor} {end} {n} are known value whose last is =
    let its : IsBehind order actor n = subst (IsBehind order actor) (sym value) (are actor known) in
    is ∙ none-behind end its
    ∙ ap (λ (a : ℕ). is_missing (first_from a (suc end) (drop (suc end) order))) whose
    ∙ ap (λ (e : ℕ). is_missing (first_from (actor_of call) (suc e) (drop (suc e) order))) last
