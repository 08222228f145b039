-- The greatest of some values, one after another.
use Rattle.std.proofs.Common.{◌≡◌, ℕ, zero, suc, ◌+◌, ◌<◌, ◌≤◌, ap, arith, rules, inl, inr}
use Rattle.std.proofs.lemmas.Bool.{cases_lt}
use Rattle.std.specs.Prelude.{max}
use Rattle.std.specs.Ordering.{ord_max, nat_cmp}
use Rattle.std.proofs.lemmas.Bool.Decides.{nat_tests}
use Rattle.own_stretch.specs.OwnStretch.{greatest_below}

-- no value is above the greatest
pub greatest-bounds : (value : ℕ → ℕ) (n i : ℕ) → i < n → value i ≤ greatest_below value n
greatest-bounds value zero i low = absurd (omega (arith, low))
greatest-bounds value (suc n) i low = elim (cases_lt i n) [
  | inl below ↦ omega (arith, greatest-bounds value n i below)
  | inr last ↦
      let e : i ≡ n = omega (arith, low, last) in
      omega (arith, ap value e)
]

-- what no value is above, the greatest isn't above
pub greatest-least : (value : ℕ → ℕ) (n most : ℕ) → ((i : ℕ) → i < n → value i ≤ most)
    → greatest_below value n ≤ most
greatest-least value zero most each = omega arith
greatest-least value (suc n) most each =
    omega (arith, greatest-least value n most (λ i low. each i (omega (arith, low))), each n (omega arith))

-- the same values have the same greatest
pub greatest-same : (one other : ℕ → ℕ) (n : ℕ) → ((i : ℕ) → i < n → one i ≡ other i)
    → greatest_below one n ≡ greatest_below other n
greatest-same one other zero each = omega arith
greatest-same one other (suc n) each =
    omega (arith, greatest-same one other n (λ i low. each i (omega (arith, low))), each n (omega arith))

-- one value more
pub greatest-more : (value : ℕ → ℕ) (n : ℕ) {old now new : ℕ} → old ≡ greatest_below value n → now ≡ value n
    → new ≡ ord_max nat_cmp old now → new ≡ greatest_below value (n + 1)
greatest-more value n {old} {now} {new} before is next =
    let e : n + 1 ≡ suc n = omega arith in
    rw e (omega (arith, greater next, before, is))
  where
    greater : new ≡ ord_max nat_cmp old now → new ≡ max old now
    greater told = first_of (omega arith, grind (arith, nat_tests), grind arith, search rules)

-- and one of 0
pub greatest-none : (value : ℕ → ℕ) (n : ℕ) {old : ℕ} → old ≡ greatest_below value n → value n ≡ 0
    → old ≡ greatest_below value (n + 1)
greatest-none value n {old} before none =
    let e : n + 1 ≡ suc n = omega arith in
    rw e (omega (arith, before, none))
