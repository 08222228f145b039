-- What an order tells of the tickets of an actor: which is the first, and which comes next.
use Rattle.std.proofs.Common.{◌≡◌, ℕ, zero, suc, ◌+◌, ◌<◌, ◌≤◌, ◌==◌, Bool, true, false, cond, List, [], ◌∷◌, length, drop, map, Some, None, refl, ap, ◌∙◌, arith}
use Rattle.std.specs.Prelude.{slice_get, slice_index}
use Rattle.std.proofs.lemmas.Option.{slice_get-get_or}
use Rattle.entry_word.specs.declared.visit.Visit.{Visit}
use Rattle.directory.specs.Histories.{History, tickets, tickets_from}
use Rattle.directory.specs.Statements.{TicketsAscend}
use Rattle.report_check.specs.Parts.{first_from, is_number, is_ticket, next_ticket}
use Rattle.node_set.specs.SetLaws.{place-rises}

-- the actors of visits
abbrev pub actors_of : History → List ℕ
actors_of history = map (λ (visit : Visit). visit.actor) history

-- the first ticket of an actor
first-head : (actor t : ℕ) (history : History)
    → first_from actor t (actors_of history) ≡ slice_get (tickets_from actor t history) 0
unfolding first_from tickets_from
first-head actor t [] = refl
first-head actor t (v ∷ h) = at_test (v.actor == actor) (first-head actor (suc t) h)
  where
    at_test : (b : Bool) → first_from actor (suc t) (actors_of h) ≡ slice_get (tickets_from actor (suc t) h) 0
        → cond b (Some t) (first_from actor (suc t) (actors_of h))
        ≡ slice_get (cond b (t ∷ tickets_from actor (suc t) h) (tickets_from actor (suc t) h)) 0
    at_test true h = refl
    at_test false h = h

-- no ticket is below the first visit's
pub high : (actor t i c : ℕ) (history : History) → slice_get (tickets_from actor t history) i ≡ Some c → t ≤ c
unfolding tickets_from
high actor t i c [] is = let bad : None ≡ Some c = is in cc
high actor t i c (v ∷ h) is = at_test (v.actor == actor) i is (λ j. high actor (suc t) j c h)
  where
    at_test : (b : Bool) (i : ℕ)
        → slice_get (cond b (t ∷ tickets_from actor (suc t) h) (tickets_from actor (suc t) h)) i ≡ Some c
        → ((j : ℕ) → slice_get (tickets_from actor (suc t) h) j ≡ Some c → suc t ≤ c) → t ≤ c
    at_test true zero is later = let e : t ≡ c = cc in omega (arith, e)
    at_test true (suc i) is later = omega (arith, later i is)
    at_test false i is later = omega (arith, later i is)

-- what stands at a ticket of an actor, and which ticket of the actor is the next one
record IsAt (actor c d i : ℕ) (order seen : List ℕ) : Type 0 where
  next : first_from actor (suc c) (drop (suc d) order) ≡ slice_get seen (suc i)
  own : is_number actor (slice_get order d) ≡ true

same-actor : (a b : ℕ) → (a == b) ≡ true → is_number b (Some a) ≡ true
same-actor a b e = e

ticket-at : (actor t c d i : ℕ) (history : History) → c ≡ t + d
    → slice_get (tickets_from actor t history) i ≡ Some c
    → IsAt actor c d i (actors_of history) (tickets_from actor t history)
unfolding tickets_from
ticket-at actor t c d i [] e is = let bad : None ≡ Some c = is in cc
ticket-at actor t c d i (v ∷ h) e is =
    at_test d i (v.actor == actor) refl e is (λ j. high actor (suc t) j c h)
    (λ k j. ticket-at actor (suc t) c k j h) (first-head actor (suc t) h)
  where
    at_test : (d i : ℕ) (b : Bool) → (v.actor == actor) ≡ b → c ≡ t + d
        → slice_get (cond b (t ∷ tickets_from actor (suc t) h) (tickets_from actor (suc t) h)) i ≡ Some c
        → ((j : ℕ) → slice_get (tickets_from actor (suc t) h) j ≡ Some c → suc t ≤ c)
        → ((k j : ℕ) → c ≡ suc t + k → slice_get (tickets_from actor (suc t) h) j ≡ Some c
        → IsAt actor c k j (actors_of h) (tickets_from actor (suc t) h))
        → first_from actor (suc t) (actors_of h) ≡ slice_get (tickets_from actor (suc t) h) 0
        → IsAt actor c d i (v.actor ∷ actors_of h)
        (cond b (t ∷ tickets_from actor (suc t) h) (tickets_from actor (suc t) h))
    at_test zero zero true same e is above later head = record {
      next = ap (λ k. first_from actor (suc k) (actors_of h)) (let s : c ≡ t = omega (arith, e) in s) ∙ head;
      own = same-actor v.actor actor same;
    }
    at_test zero (suc i) true same e is above later head = absurd (omega (arith, e, above i is))
    at_test zero i false same e is above later head = absurd (omega (arith, e, above i is))
    at_test (suc d) zero true same e is above later head =
        let s : t ≡ c = cc in absurd (omega (arith, e, s))
    at_test (suc d) (suc i) true same e is above later head =
        let deep = later d i (omega (arith, e)) is in record { next = deep.next; own = deep.own }
    at_test (suc d) i false same e is above later head =
        let deep = later d i (omega (arith, e)) is in record { next = deep.next; own = deep.own }

-- these are the tickets of an actor in an order
pub record AreTickets (order : List ℕ) (actor : ℕ) (seen : List ℕ) : Type 0 where
  pub first : next_ticket order actor None ≡ slice_get seen 0
  pub next : (i : ℕ) → i < length seen
      → next_ticket order actor (Some (slice_index seen i)) ≡ slice_get seen (suc i)
  pub own : (i : ℕ) → i < length seen → is_ticket order actor (slice_index seen i) ≡ true
  pub rise : (i j : ℕ) → i < j → j < length seen → slice_index seen i < slice_index seen j

-- the tickets of an actor's visits are its tickets in their order
pub tickets-are : TicketsAscend → (history : History) (actor : ℕ)
    → AreTickets (actors_of history) actor (tickets actor history)
tickets-are ascend history actor = record {
  first = first-head actor 0 history;
  next = λ i low. (at i low).next;
  own = λ i low. (at i low).own;
  rise = λ i j less low. place-rises (tickets actor history) i j (ascend actor history) less low;
}
  where
    at : (i : ℕ) → i < length (tickets actor history)
        → IsAt actor (slice_index (tickets actor history) i) (slice_index (tickets actor history) i) i
        (actors_of history) (tickets actor history)
    at i low =
        ticket-at actor 0 (slice_index (tickets actor history) i) (slice_index (tickets actor history) i) i history
        (omega arith) (slice_get-get_or (tickets actor history) i 0 low)
