-- Places in ascending lists, and the weights that stand beside them.
use Rattle.std.proofs.Common.{◌≡◌, ℕ, ◌<◌, true, false, cond, ◌||◌, List, [], ◌∷◌, ◌++◌, length, get_or, refl, sym, ◌∙◌, ap, subst, inl, inr, arith, eqb, eq-eqb, ne_eqb}
use Rattle.std.proofs.lemmas.Bool.{cases_eq, or_left}
use Rattle.node_set.specs.Ascending.{has, IsAscending}
use Rattle.cluster_tree.specs.Tree.{weight_beside}
use Rattle.cluster_tree.specs.PlaceLaws.{member_place, beside_place}

pub beside_old : (v y w : ℕ) (xs ws : List ℕ) → has v xs ≡ true → length ws ≡ length xs
    → weight_beside v (xs ++ y ∷ []) (ws ++ w ∷ []) ≡ weight_beside v xs ws
beside_old v y w [] ws h count = let both : false ≡ true = h in cc
beside_old v y w (x ∷ xs) [] h count = absurd (omega arith)
beside_old v y w (x ∷ xs) (u ∷ ws) h count = elim (cases_eq v x) [
  | inl same ↦ ap (λ b. cond b u (weight_beside v (xs ++ y ∷ []) (ws ++ w ∷ []))) (eq-eqb v x same)
      ∙ sym (ap (λ b. cond b u (weight_beside v xs ws)) (eq-eqb v x same))
  | inr other ↦
      let rest : has v xs ≡ true = subst (λ b. (b || has v xs) ≡ true) (ne_eqb v x other) h in
      ap (λ b. cond b u (weight_beside v (xs ++ y ∷ []) (ws ++ w ∷ []))) (ne_eqb v x other)
      ∙ beside_old v y w xs ws rest (omega arith)
      ∙ sym (ap (λ b. cond b u (weight_beside v xs ws)) (ne_eqb v x other))
]

pub beside_new : (v w : ℕ) (xs ws : List ℕ) → has v xs ≡ false → length ws ≡ length xs
    → weight_beside v (xs ++ v ∷ []) (ws ++ w ∷ []) ≡ w
beside_new v w [] [] h count = ap (λ b. cond b w 0) (eq-eqb v v refl)
beside_new v w [] (u ∷ ws) h count = absurd (omega arith)
beside_new v w (x ∷ xs) [] h count = absurd (omega arith)
beside_new v w (x ∷ xs) (u ∷ ws) h count = elim (cases_eq v x) [
  | inl same ↦ absurd (let both : true ≡ false = sym (or_left (eqb v x) (has v xs) (eq-eqb v x same)) ∙ h in cc)
  | inr other ↦
      let rest : has v xs ≡ false = subst (λ b. (b || has v xs) ≡ false) (ne_eqb v x other) h in
      ap (λ b. cond b u (weight_beside v (xs ++ v ∷ []) (ws ++ w ∷ []))) (ne_eqb v x other)
      ∙ beside_new v w xs ws rest (omega arith)
]

pub beside_contained : (v : ℕ) (xs ws : List ℕ) → IsAscending xs → has v xs ≡ true → length ws ≡ length xs
    → (k : ℕ) × (k < length ws) × (weight_beside v xs ws ≡ get_or ws k 0)
beside_contained v xs ws ascending h count = grind (arith, member_place, beside_place)
