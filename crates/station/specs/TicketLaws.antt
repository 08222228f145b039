-- Short laws of histories that go on, for the crates above: what is beyond a front, the tickets of
-- an actor, and that a pass has seen what is legal. Key law: `tickets-more` (one more visit of an
-- actor, behind a front with all of its own, adds one ticket).
use Rattle.std.proofs.Common.{◌≡◌, ◌≢◌, ℕ, suc, ◌+◌, ◌<◌, ◌==◌, eq-eqb, ne_eqb, Bool, true, false, true≢false, cond, [], ◌∷◌, ◌++◌, length, drop, refl, sym, ap, ◌∙◌, subst, arith}
use Rattle.std.proofs.lemmas.List.{append-nil, take-append-drop}
use Rattle.std.proofs.lemmas.List.Elements.{filter-append}
use Rattle.entry_word.specs.declared.visit.Visit.{Visit}
use Rattle.entry_word.specs.declared.visit.Act.{Act}
use Rattle.directory.specs.Histories.{History, IsFront, own, tickets, tickets_from}
use Rattle.directory.specs.Legal.{IsLegal}
use Rattle.station.specs.Passes.{PassData, actor_of}
use Rattle.station.specs.Setup.{Setup, setting_in, subs_in}
use Rattle.station.specs.Visits.{HasVisited}
use Rattle.station.specs.Plays.{visit_by}
use Rattle.directory.specs.StepLaws.{own-push}

-- what a history has beyond a front
pub front-rest : (xs zs : History) → IsFront xs zs → zs ≡ xs ++ drop (length xs) zs
front-rest xs zs f =
    sym (take-append-drop (length xs) zs) ∙ ap (λ l. l ++ drop (length xs) zs) (sym f)

-- a list that more leaves as it is gets nothing
goes_on-nil : (xs ys : History) → xs ++ ys ≡ xs → ys ≡ []
goes_on-nil [] ys e = e
goes_on-nil (x ∷ xs) ys e = goes_on-nil xs ys (ap (drop 1) e)

-- more visits only add to those of an actor
pub own-append : (actor : ℕ) (xs ys : History)
    → own actor (xs ++ ys) ≡ own actor xs ++ own actor ys
own-append actor xs ys = filter-append (λ (v : Visit). v.actor == actor) xs ys

-- where a longer history has no more visits of an actor, none is in what it adds
pub own-beyond : (actor : ℕ) (xs zs : History) → IsFront xs zs → own actor zs ≡ own actor xs
    → own actor (drop (length xs) zs) ≡ []
own-beyond actor xs zs f same = goes_on-nil (own actor xs) (own actor (drop (length xs) zs))
    (sym (own-append actor xs (drop (length xs) zs))
    ∙ (ap (own actor) (sym (front-rest xs zs f)) ∙ same))

-- where an actor has no visit, neither the first is one nor a later
pub own-nil : (actor : ℕ) (visit : Visit) (later : History) → own actor (visit ∷ later) ≡ []
    → (visit.actor ≢ actor) × (own actor later ≡ [])
own-nil actor visit later e = go (visit.actor == actor) refl e
  where
    go : (b : Bool) → (visit.actor == actor) ≡ b
        → cond b (visit ∷ own actor later) (own actor later) ≡ []
        → (visit.actor ≢ actor) × (own actor later ≡ [])
    go true is f = absurd (omega (arith, ap length f))
    go false is f = ((λ same. true≢false (sym (eq-eqb visit.actor actor same) ∙ is)), f)

-- the tickets of an actor in a history that goes on
from-append : (actor t : ℕ) (xs ys : History) → tickets_from actor t (xs ++ ys)
    ≡ tickets_from actor t xs ++ tickets_from actor (t + length xs) ys
unfolding tickets_from
from-append actor t [] ys = ap (λ (k : ℕ). tickets_from actor k ys) (omega arith)
from-append actor t (x ∷ xs) ys = go (x.actor == actor) (from-append actor (suc t) xs ys
    ∙ ap (λ (k : ℕ). tickets_from actor (suc t) xs ++ tickets_from actor k ys) (omega arith))
  where
    go : (b : Bool) → tickets_from actor (suc t) (xs ++ ys)
        ≡ tickets_from actor (suc t) xs ++ tickets_from actor (t + suc (length xs)) ys
        → cond b (t ∷ tickets_from actor (suc t) (xs ++ ys)) (tickets_from actor (suc t) (xs ++ ys))
        ≡ cond b (t ∷ tickets_from actor (suc t) xs) (tickets_from actor (suc t) xs)
        ++ tickets_from actor (t + suc (length xs)) ys
    go true h = ap (λ l. t ∷ l) h
    go false h = h

from-none : (actor t : ℕ) (xs : History) → own actor xs ≡ [] → tickets_from actor t xs ≡ []
unfolding tickets_from
from-none actor t [] e = refl
from-none actor t (x ∷ xs) e = let n = own-nil actor x xs e in
    ap (λ b. cond b (t ∷ tickets_from actor (suc t) xs) (tickets_from actor (suc t) xs))
    (ne_eqb x.actor actor n.0) ∙ from-none actor (suc t) xs n.1

from-one : (actor t : ℕ) (visit : Visit) → visit.actor ≡ actor
    → tickets_from actor t (visit ∷ []) ≡ t ∷ []
unfolding tickets_from
from-one actor t visit mine = ap (λ b. cond b (t ∷ []) []) (eq-eqb visit.actor actor mine)

-- a front that has all visits of an actor has all its tickets
pub tickets-same : (actor : ℕ) (xs zs : History) → IsFront xs zs → own actor zs ≡ own actor xs
    → tickets actor zs ≡ tickets actor xs
tickets-same actor xs zs front same =
    let rest = drop (length xs) zs in
    ap (tickets actor) (front-rest xs zs front) ∙ (from-append actor 0 xs rest
    ∙ (ap (λ l. tickets actor xs ++ l)
    (from-none actor (0 + length xs) rest (own-beyond actor xs zs front same))
    ∙ append-nil (tickets actor xs)))

-- a visit of its own has the last ticket
pub tickets-mine : (actor : ℕ) (zs : History) (visit : Visit) → visit.actor ≡ actor
    → tickets actor (zs ++ visit ∷ []) ≡ tickets actor zs ++ length zs ∷ []
tickets-mine actor zs visit mine = from-append actor 0 zs (visit ∷ [])
    ∙ ap (λ l. tickets actor zs ++ l)
    (from-one actor (0 + length zs) visit mine ∙ ap (λ (k : ℕ). k ∷ []) (omega arith))

-- an actor's next ticket, where others went between
pub tickets-more : (actor : ℕ) (xs earlier : History) (visit : Visit) → IsFront xs earlier
    → own actor earlier ≡ own actor xs → visit.actor ≡ actor
    → tickets actor (earlier ++ visit ∷ []) ≡ tickets actor xs ++ length earlier ∷ []
tickets-more actor xs earlier visit front same mine =
    tickets-mine actor earlier visit mine
    ∙ ap (λ l. l ++ length earlier ∷ []) (tickets-same actor xs earlier front same)

-- what a pass has seen is legal once it has made a visit
pub legal-seen : (setup : Setup) (old new : PassData) (act : Act) (ticket : ℕ)
    → old.view.setup ≡ setup → HasVisited old act ticket new → (sub : ℕ) → sub < subs_in setup
    → IsLegal (setting_in setup) sub new.view.seen
legal-seen setup old new act ticket told visited sub low =
    subst (λ (s : Setup). IsLegal (setting_in s) sub new.view.seen) told
    (visited.legal sub (subst (λ (s : Setup). sub < subs_in s) (sym told) low))

-- a pass that makes a visit has one visit more of its own
pub own-visited : {old new : PassData} {act : Act} {ticket : ℕ} → HasVisited old act ticket new
    → own (actor_of old) new.view.seen
    ≡ own (actor_of old) old.view.seen ++ visit_by old.view act ∷ []
own-visited {old} {act} visited =
    ap (own (actor_of old)) visited.seen
    ∙ (own-push (actor_of old) visited.earlier (visit_by old.view act)
    ∙ (ap (λ b. own (actor_of old) visited.earlier ++ cond b (visit_by old.view act ∷ []) [])
    (eq-eqb old.view.low old.view.low refl)
    ∙ ap (λ l. l ++ visit_by old.view act ∷ []) visited.visits))
