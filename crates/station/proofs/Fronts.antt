-- Histories that begin with others, and what is filtered from them.
use Rattle.std.proofs.Common.{◌≡◌, ◌≢◌, ℕ, ◌≤◌, eq-eqb, List, [], ◌∷◌, ◌++◌, length, take, drop, refl, sym, ap, ◌∙◌, subst, arith, append_assoc}
use Rattle.std.proofs.lemmas.List.{append-nil}
use Rattle.entry_word.specs.declared.visit.Visit.{Visit}
use Rattle.directory.specs.Histories.{IsFront, own}
use Rattle.station.specs.TicketLaws.{front-rest, own-append, own-beyond}
use Rattle.directory.specs.HistoryLaws.{front-append}

module _ {A : Type 0} where
  -- of two fronts of one list the shorter is a front of the longer
  pub split_at : (xs ps ys qs : List A) → xs ++ ps ≡ ys ++ qs → length xs ≤ length ys
      → (mid : List A) × (ys ≡ xs ++ mid) × (ps ≡ mid ++ qs)
  split_at [] ps ys qs e short = (ys, refl, e)
  split_at (x ∷ xs) ps [] qs e short = absurd (omega arith)
  split_at (x ∷ xs) ps (y ∷ ys) qs e short = grind (arith, split_at xs ps ys qs (ap (drop 1) e) (omega arith))

pub front-longer : (xs zs more : List Visit) → IsFront xs zs → IsFront xs (zs ++ more)
front-longer xs zs more f = grind (arith, front-rest xs zs f, append_assoc, front-append)

-- of two fronts of one history the shorter is a front of the other
pub front-of_longer : (xs ys zs : List Visit) → IsFront xs zs → IsFront ys zs → length xs ≤ length ys → IsFront xs ys
front-of_longer xs ys zs f g short =
    let t = split_at xs (drop (length xs) zs) ys (drop (length ys) zs) (grind (arith, front-rest)) short in
    subst (λ l. xs ≡ take (length xs) l) (sym t.1) (front-append xs t.0)

-- a visit of another adds nothing, and a visit of one's own adds itself
pub own-other : (actor : ℕ) (history : List Visit) (visit : Visit) → visit.actor ≢ actor
    → own actor (history ++ visit ∷ []) ≡ own actor history
own-other actor history visit other = grind (arith, own-append, append-nil)

pub own-mine : {actor : ℕ} (history : List Visit) (visit : Visit) → visit.actor ≡ actor
    → own actor (history ++ visit ∷ []) ≡ own actor history ++ visit ∷ []
own-mine {actor} history visit mine = rw (own-append actor history (visit ∷ []), eq-eqb visit.actor actor mine)

first-nil : (ps qs : List Visit) → ps ++ qs ≡ [] → ps ≡ []
first-nil [] qs e = refl
first-nil (p ∷ ps) qs e = absurd (omega (arith, ap length e))

-- a front of a front keeps all own visits of the longer, where it has all
pub own-between : (actor : ℕ) (xs ys zs : List Visit) → IsFront xs zs → IsFront ys zs → length xs ≤ length ys
    → own actor zs ≡ own actor xs → own actor zs ≡ own actor ys
own-between actor xs ys zs f g short same =
    let t = split_at xs (drop (length xs) zs) ys (drop (length ys) zs) (grind (arith, front-rest)) short in
    let rest = drop (length ys) zs in
    let none = own-beyond actor xs zs f same in
    let both : own actor t.0 ++ own actor rest ≡ [] = cc (own-append actor t.0 rest, none, t.2) in
    let mid = first-nil (own actor t.0) (own actor rest) both in
    cc (append-nil (own actor xs), own-append actor xs t.0, t.1)

-- an actor with no visit has none in a front
pub own-none_longer : (actor : ℕ) (xs zs : List Visit) → IsFront xs zs → own actor zs ≡ [] → own actor xs ≡ []
own-none_longer actor xs zs f none-there =
    first-nil (own actor xs) (own actor (drop (length xs) zs))
    (sym (own-append actor xs (drop (length xs) zs)) ∙ (ap (own actor) (sym (front-rest xs zs f)) ∙ none-there))
