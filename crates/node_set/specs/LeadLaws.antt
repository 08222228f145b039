-- Laws of the first of the balls that wait, and of sets that are written over, for proofs of
-- covers. Key laws: `lead` (the list begins with its least member), `nothing_at`, `none_waits`
-- (none is below the next), `members_few`.
use Rattle.std.proofs.Common.{◌≡◌, inl, inr, ℕ, ◌<◌, ◌≤◌, true, false, List, [], ◌∷◌, length, refl, sym, ◌∙◌, ap, subst, arith}
use Rattle.std.proofs.lemmas.Bool.{cases_lt, false≢true, or_cases, eqb-true}
use Rattle.std.specs.Prelude.{◌==◌}
use Rattle.node_set.specs.Ascending.{has, IsAscending, IsBelowAll}
use Rattle.node_set.specs.Nodes.{AreNodes, Nodes}
use Rattle.node_set.specs.Scan.{IsNext}
use Rattle.node_set.specs.SetLaws.{all_members, has_head, length-passing-le}

-- ---- the first of a list that ascends

above : (x a : ℕ) (xs : List ℕ) → IsBelowAll x xs → has a xs ≡ true → x < a
above x a [] below h = absurd (false≢true h)
above x a (y ∷ ys) below h = elim (or_cases (a == y) (has a ys) h) [
  | inl same ↦ omega (arith, eqb-true a y same, below.0)
  | inr later ↦ above x a ys below.1 later
]

-- an ascending list begins with its least member
pub lead : (xs : List ℕ) (a : ℕ) → IsAscending xs → has a xs ≡ true
    → ((v : ℕ) → v < a → has v xs ≡ false)
    → (rest : List ℕ) × (xs ≡ a ∷ rest)
lead [] a ascending h none = absurd (false≢true h)
lead (x ∷ xs) a ascending h none = elim (or_cases (a == x) (has a xs) h) [
  | inl same ↦ (xs, ap (λ y. y ∷ xs) (sym (eqb-true a x same)))
  | inr later ↦ absurd (false≢true (sym (none x (above x a xs ascending.0 later)) ∙ has_head x xs))
]

-- where no number is a member there is none
pub nothing_at : (xs : List ℕ) → ((v : ℕ) → has v xs ≡ false) → xs ≡ []
nothing_at [] none = refl
nothing_at (x ∷ xs) none = absurd (false≢true (sym (none x) ∙ has_head x xs))

-- a set has no more members than room
pub members_few : (set : Nodes) → AreNodes set → length set.members ≤ set.room
members_few set sound =
    subst (λ l. length l ≤ set.room) (all_members set sound)
    (length-passing-le (λ x. has x set.members) 0 set.room)

-- none waits below the next
pub none_waits : (waiting : List ℕ) (from a : ℕ) → ((v : ℕ) → v < from → has v waiting ≡ false)
    → IsNext waiting from a
    → (v : ℕ) → v < a → has v waiting ≡ false
none_waits waiting from a before next v below = elim (cases_lt v from) [
  | inl less ↦ before v less
  | inr more ↦ next.first v more below
]

-- a set from its parts
pub nodes_from : (s : Nodes) (n : ℕ) (members : List ℕ) → s.room ≡ n → s.members ≡ members → s
    ≡ record { room = n; members = members }
nodes_from s n members e f = rw (← e, ← f) refl
