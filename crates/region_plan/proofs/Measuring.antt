-- The greatest of some numbers, one after another.
use Rattle.std.proofs.Common.{◌≡◌, ℕ, zero, suc, ◌+◌, ◌<◌, ◌≤◌, List, [], ◌∷◌, ◌++◌, length, map, take, get_or, refl, sym, ◌∙◌, ap, arith, rules, inl, inr}
use Rattle.std.proofs.lemmas.Bool.{cases_lt}
use Rattle.std.specs.Prelude.{max}
use Rattle.std.specs.Ordering.{ord_max, nat_cmp}
use Rattle.std.proofs.lemmas.Bool.Decides.{nat_tests}
use Rattle.std.proofs.lemmas.List.{get_or-map, length-map, take_more, take_all}
use Rattle.std.proofs.Math.Nat.{max-zero, zero-max, le-max_left, le-max_right}
use Rattle.region_plan.specs.Plan.{PlanData, Level, no_level, level_at, level_in, readers}
use Rattle.region_plan.specs.Measures.{most, degree_in, degree_of}
use Rattle.region_plan.specs.Kept.{Shape, readers_for, shape_of}

greater_is : (a b : ℕ) {new : ℕ} → new ≡ ord_max nat_cmp a b → new ≡ max a b
greater_is a b is = first_of (omega arith, grind (arith, nat_tests), grind arith, search rules)

pub max_few : (a b c : ℕ) {new : ℕ} → new ≡ ord_max nat_cmp a b → a ≤ c → b ≤ c → new ≤ c
max_few a b c is left right = omega (arith, greater_is a b is)

max_both : (a b c : ℕ) → max (max a b) c ≡ max a (max b c)
max_both a b c = omega arith

most_push : (xs : List ℕ) (y : ℕ) → most (xs ++ y ∷ []) ≡ max (most xs) y
most_push [] y = max-zero y ∙ sym (zero-max y)
most_push (x ∷ xs) y = ap (λ n. max x n) (most_push xs y) ∙ sym (max_both x (most xs) y)

most_more : (xs : List ℕ) (i : ℕ) {y : ℕ} → i < length xs → get_or xs i 0 ≡ y
    → most (take (i + 1) xs) ≡ max (most (take i xs)) y
most_more xs i below is = grind (arith, take_more xs i 0 below, most_push (take i xs) (get_or xs i 0))

pub degree_step : (shape : Shape) (v : ℕ) {old len new : ℕ} {row : List ℕ} → v < length shape.readers
    → old ≡ most (take v (map length shape.readers)) → len ≡ length row → row ≡ readers_for shape v
    → new ≡ ord_max nat_cmp old len
    → new ≡ most (take (v + 1) (map length shape.readers))
degree_step shape v {len} below before is reads now =
    let at : get_or (map length shape.readers) v 0 ≡ len = get_or-map length shape.readers v [] 0 below
    ∙ ap length (sym reads) ∙ sym is in
    greater_is _ len now ∙ ap (λ n. max n len) before ∙ sym (most_more (map length shape.readers) v
    (omega (arith, length-map shape.readers (length {A = ℕ}))) at)

pub degree_done : (shape : Shape) (v : ℕ) {degree : ℕ} → length shape.readers ≤ v
    → degree ≡ most (take v (map length shape.readers)) → degree ≡ most (map length shape.readers)
degree_done shape v past is = search (rules, take_all, length-map)

pub level_step : (levels : List Level) (i : ℕ) {old d new : ℕ} {shape : Shape} → i < length levels
    → old ≡ most (take i (map degree_in levels)) → shape ≡ shape_of (level_in levels i)
    → d ≡ most (map length shape.readers) → new ≡ ord_max nat_cmp old d
    → new ≡ most (take (i + 1) (map degree_in levels))
level_step levels i {d} below before is reads now =
    let at : get_or (map degree_in levels) i 0 ≡ d = get_or-map degree_in levels i no_level 0 below
    ∙ sym (reads ∙ ap (λ (s : Shape). most (map length s.readers)) is) in
    greater_is _ d now ∙ ap (λ n. max n d) before ∙ sym (most_more (map degree_in levels) i
    (omega (arith, length-map levels degree_in)) at)

-- no number is above the greatest
pub most_bounds : (xs : List ℕ) (i : ℕ) → get_or xs i 0 ≤ most xs
most_bounds [] i = omega arith
most_bounds (x ∷ xs) zero = le-max_left x (most xs)
most_bounds (x ∷ xs) (suc i) = omega (arith, most_bounds xs i, le-max_right x (most xs))

at_map : {X : Type 0} (f : X → ℕ) (xs : List X) (i : ℕ) (d : X) → f d ≡ 0 → f (get_or xs i d) ≡ get_or (map f xs) i 0
at_map f [] i d none = none
at_map f (x ∷ xs) zero d none = refl
at_map f (x ∷ xs) (suc i) d none = at_map f xs i d none

pub degree_bounds : (plan : PlanData) (i v : ℕ) → length (readers plan i v) ≤ degree_of plan
degree_bounds plan i v =
    omega (
      arith,
      at_map (length {A = ℕ}) (level_at plan i).readers v [] refl,
      most_bounds (map length (level_at plan i).readers) v,
      at_map degree_in plan.levels i no_level refl,
      most_bounds (map degree_in plan.levels) i,
    )

-- the place of the greatest
pub record HasGreatest (xs : List ℕ) : Type 0 where
  pub at : ℕ
  pub below : at < length xs
  pub is : get_or xs at 0 ≡ most xs

greatest_there : (x : ℕ) (xs : List ℕ) → HasGreatest (x ∷ xs)
greatest_there x [] = record { at = 0; below = omega arith; is = omega arith }
greatest_there x (y ∷ ys) =
    let rest : HasGreatest (y ∷ ys) = greatest_there y ys in
    let rest_is : get_or (y ∷ ys) rest.at 0 ≡ max y (most ys) = rest.is in
    elim (cases_lt (max y (most ys)) x) [
      | inl over ↦ record { at = 0; below = omega arith; is = omega arith }
      | inr under ↦ record { at = suc rest.at; below = omega (arith, rest.below); is = omega (arith, rest_is) }
    ]

pub greatest_in : (xs : List ℕ) → 0 < length xs → HasGreatest xs
greatest_in [] some = absurd (omega arith)
greatest_in (x ∷ xs) some = greatest_there x xs
