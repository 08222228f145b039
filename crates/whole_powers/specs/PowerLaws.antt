-- Short laws of powers.
-- Key laws: `lt_of_pow` (a smaller power is that of a smaller number), `zero_pow`, `small_power`
-- (what bounds the powers of the growth test), `outgrows` (what fails the test so often is large).
use Rattle.std.proofs.Common.{◌≡◌, inl, inr, ℕ, zero, suc, ◌-◌, ◌*◌, ◌^◌, ◌<◌, ◌≤◌, refl, subst, arith, lit<}
use Rattle.std.proofs.lemmas.Bool.{cases_lt}
use Rattle.std.proofs.Math.Nat.{pow-zero, pow-succ', pow-le-pow_left, pow-le-pow_right, le_trans, mul-le-mul_left, mul-lt-mul_of_pos_left}

pub lt_of_pow : (a b k : ℕ) → a ^ k < b ^ k → a < b
lt_of_pow a b k h = elim (cases_lt a b)
    [ inl less ↦ less | inr more ↦ absurd (omega (arith, pow-le-pow_left more k)) ]

-- within the limits of the test no power is above 2 ^ 80
pub small_power : (z k : ℕ) → z ≤ 1024 → k ≤ 8 → z ^ k ≤ 1024 ^ 8
small_power z k h few = le_trans (pow-le-pow_left h k) (pow-le-pow_right (lit< tt) few)

pub zero_pow : (k : ℕ) → 0 < k → ◌≡◌ {A = ℕ} (0 ^ k) 0
zero_pow zero pos = absurd (omega arith)
zero_pow (suc k) pos = rw (pow-succ' 0 k) (omega arith)

one_pow : (k : ℕ) → ◌≡◌ {A = ℕ} (1 ^ k) 1
one_pow zero = refl
one_pow (suc k) = rw (pow-succ' 1 k, one_pow k) refl

more_power : (r p a b : ℕ) → 0 < r → p < a → r * a < b → r * p < b
more_power r p a b pos h g = omega (arith, mul-lt-mul_of_pos_left h pos)

-- numbers from 1 on whose power grows by more than the factor r at each of k steps end above r
module _ (size : ℕ → ℕ) (k r : ℕ) (pos : 0 < r) (some : 1 ≤ size 0) where
  first_power : 1 ≤ size 0 ^ k
  first_power = omega (arith, one_pow k, pow-le-pow_left some k)

  grows : (j : ℕ) → ((i : ℕ) → i < suc j → r * size i ^ k < size (suc i) ^ k)
      → r ^ suc j < size (suc j) ^ k
  grows zero more = rw (pow-succ' r 0, pow-zero r)
      (omega (arith, more 0 (omega arith), mul-le-mul_left r first_power))
  grows (suc j) more = rw (pow-succ' r (suc j))
      (more_power r (r ^ suc j) (size (suc j) ^ k) (size (suc (suc j)) ^ k) pos
      (grows j (λ i h. more i (omega arith))) (more (suc j) (omega arith)))

  pub outgrows : 0 < k → ((i : ℕ) → i < k → r * size i ^ k < size (suc i) ^ k) → r < size k
  outgrows low more =
      let last : suc (k - 1) ≡ k = omega arith in
      lt_of_pow r (size k) k
      (subst (λ (n : ℕ). r ^ n < size n ^ k) last (grows (k - 1) (λ i h. more i (omega arith))))
