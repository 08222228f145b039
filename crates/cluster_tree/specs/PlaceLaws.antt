-- Laws of places in lists of members, and of the weights that stand beside them, for proofs.
-- Key laws: `has_place` (what stands at a place is a member), `beside_place` (beside it is its
-- weight).
use Rattle.std.specs.Prelude.{slice_index}
use Rattle.std.proofs.Common.{Ok, Err, ◌≡◌, ℕ, zero, suc, ◌<◌, true, false, cond, ◌||◌, List, [], ◌∷◌, length, map, refl, sym, ◌∙◌, ap, subst, inl, inr, arith, eqb, eq-eqb, ne_eqb}
use Rattle.std.specs.List.Sorted.{IsBinarySearchResult}
use Rattle.std.specs.Ordering.{nat_cmp}
use Rattle.std.proofs.lemmas.List.Sorted.{searched}
use Rattle.std.proofs.lemmas.Bool.{cases_eq, cases_lt, or_left, or_right}
use Rattle.node_set.specs.Ascending.{has, IsAscending}
use Rattle.node_set.specs.SetLaws.{below_each, place-stays_or_rises}
use Rattle.cluster_tree.specs.Tree.{weight_beside}

pub has_place : (xs : List ℕ) (i : ℕ) → i < length xs → has (slice_index xs i) xs ≡ true
has_place [] i below = absurd (omega arith)
has_place (x ∷ xs) zero below = or_left (eqb x x) (has x xs) (eq-eqb x x refl)
has_place (x ∷ xs) (suc i) below =
    or_right (eqb (slice_index xs i) x) (has (slice_index xs i) xs) (has_place xs i (omega arith))

pub member_place : (x : ℕ) (xs : List ℕ) → has x xs ≡ true → (k : ℕ) × (k < length xs)
    × (slice_index xs k ≡ x)
member_place x [] h = let both : false ≡ true = h in cc
member_place x (y ∷ ys) h = elim (cases_eq x y) [
  | inl same ↦ (0, omega arith, sym same)
  | inr other ↦
      let later = member_place x ys (subst (λ b. (b || has x ys) ≡ true) (ne_eqb x y other) h) in
      (suc later.0, omega (arith, later.1), later.2)
]

pub beside_place : (xs ws : List ℕ) (i : ℕ) → IsAscending xs → length ws ≡ length xs → i < length xs
    → weight_beside (slice_index xs i) xs ws ≡ slice_index ws i
beside_place [] ws i ascending count short = absurd (omega arith)
beside_place (x ∷ xs) [] i ascending count short = absurd (omega arith)
beside_place (x ∷ xs) (w ∷ ws) zero ascending count short =
    ap (λ b. cond b w (weight_beside x xs ws)) (eq-eqb x x refl)
beside_place (x ∷ xs) (w ∷ ws) (suc i) ascending count short =
    let above : x < slice_index xs i = below_each x xs i ascending.0 (omega arith) in
    ap (λ b. cond b w (weight_beside (slice_index xs i) xs ws))
    (ne_eqb (slice_index xs i) x (λ same. omega (arith, same, above)))
    ∙ beside_place xs ws i ascending.1 (omega arith) (omega arith)

-- what a search for a member finds
pub found_place : (xs ws : List ℕ) (v k : ℕ) → IsAscending xs → length ws ≡ length xs
    → IsBinarySearchResult (λ y. nat_cmp y v) xs (Ok k) → (k < length xs)
    × (weight_beside v xs ws ≡ slice_index ws k)
found_place xs ws v k ascending count result =
    let at = searched xs v (Ok k) result (λ i j. place-stays_or_rises xs i j ascending) in
    (at.0, ap (λ x. weight_beside x xs ws) (sym at.1) ∙ beside_place xs ws k ascending count at.0)

pub always_found : (xs : List ℕ) (v k : ℕ) → IsAscending xs → has v xs ≡ true
    → IsBinarySearchResult (λ y. nat_cmp y v) xs (Err k) → ⊥
always_found xs v k ascending member result =
    let at = searched xs v (Err k) result (λ i j. place-stays_or_rises xs i j ascending) in
    let place = member_place v xs member in
    elim (cases_lt place.0 k) [
      | inl before ↦ omega (arith, at.1 place.0 before, place.2)
      | inr after ↦ omega (arith, at.2 place.0 after place.1, place.2)
    ]

-- what a function gives stands beside each member
pub beside_map : (f : ℕ → ℕ) (v : ℕ) (xs : List ℕ) → has v xs ≡ true
    → weight_beside v xs (map f xs) ≡ f v
beside_map f v [] h = let both : false ≡ true = h in cc
beside_map f v (x ∷ xs) h = elim (cases_eq v x) [
  | inl same ↦ ap (λ b. cond b (f x) (weight_beside v xs (map f xs))) (eq-eqb v x same) ∙ ap f
      (sym same)
  | inr other ↦
      let rest : has v xs ≡ true = subst (λ b. (b || has v xs) ≡ true) (ne_eqb v x other) h in
      ap (λ b. cond b (f x) (weight_beside v xs (map f xs))) (ne_eqb v x other) ∙ beside_map f v xs
      rest
]
