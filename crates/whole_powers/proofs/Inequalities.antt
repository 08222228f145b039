-- Bernoulli's inequality, the sum of two bounds on powers, and the number of phases.
use Rattle.std.proofs.Common.{◌≡◌, ◌⊎◌, inl, inr, ℕ, zero, suc, ◌+◌, ◌-◌, ◌*◌, ◌^◌, ◌<◌, ◌≤◌, [], ◌∷◌, length, ap, subst, arith}
use Rattle.std.proofs.lemmas.Nat.{mul-pow}
use Rattle.std.proofs.lemmas.Bool.{cases_lt}
use Rattle.std.proofs.Math.Nat.{pow-zero, pow-succ', one-le-pow, mul-le-mul_left, mul-le-mul_right, mul-lt-mul_of_pos_left, mul-lt-mul_of_pos_right, lt_of_mul-lt-mul_left, lt_of_mul-lt-mul_right}
use Rattle.whole_powers.specs.PowerLaws.{lt_of_pow, zero_pow}
use Rattle.whole_powers.specs.Bounds.{BernoulliAbove, BernoulliBelow, PowersAdd, OnePhase, PhasesBound}

-- ---- Bernoulli's inequality

bernoulli_step : (k x p : ℕ) → 1 + k * x ≤ p → 1 + suc k * x ≤ (1 + x) * p
bernoulli_step k x p h = grind (arith, mul-le-mul_left x h)

pub bernoulli : BernoulliAbove
bernoulli zero x = rw (pow-zero (1 + x)) (omega arith)
bernoulli (suc k) x = rw (pow-succ' (1 + x) k) (bernoulli_step k x ((1 + x) ^ k) (bernoulli k x))

-- the same for a share below one: with m = q + 1, m ^ k times 1 - k / m is at most q ^ k
below_step : (k q a b : ℕ) → suc q * a ≤ suc q * b + k * a → suc q * (suc q * a) ≤ suc q * (q * b) + suc k * (suc q * a)
below_step k q a b h = omega (arith, mul-le-mul_left q h)

pub bernoulli_below : BernoulliBelow
bernoulli_below zero q = rw (pow-zero (suc q), pow-zero q) (omega arith)
bernoulli_below (suc k) q = rw (pow-succ' (suc q) k, pow-succ' q k)
    (below_step k q (suc q ^ k) (q ^ k) (bernoulli_below k q))

-- ---- two bounds on powers add up

zero_from_pow : (z k : ℕ) → z ^ k ≤ 0 → z ≡ 0
zero_from_pow z k h = elim (cases_lt 0 z) [
  | inl pos ↦ absurd (omega (arith, one-le-pow k z pos))
  | inr none ↦
      omega arith
]

-- a part's bound, crossed with what the sums would be
cross_pow : (r zk yk sk tk : ℕ) → 0 < yk → zk ≤ r * yk → r * tk < sk → zk * tk < yk * sk
cross_pow r zk yk sk tk pos part whole = omega (arith, mul-le-mul_right tk part, mul-lt-mul_of_pos_left whole pos)

cross : (k r z y s t : ℕ) → 0 < k → z ^ k ≤ r * y ^ k → r * t ^ k < s ^ k → (z * t < y * s) ⊎ ((y ≡ 0) × (z ≡ 0))
cross k r z y s t some part whole =
    elim (cases_lt 0 y) [
      | inl pos ↦ inl (lt_of_pow (z * t) (y * s) k
          (rw (mul-pow z t k, mul-pow y s k) (cross_pow r (z ^ k) (y ^ k) (s ^ k) (t ^ k)
          (one-le-pow k y pos) part whole)))
      | inr none ↦
          let e : y ≡ 0 = omega arith in
          let zk : z ^ k ≤ r * 0 ^ k = subst (λ (n : ℕ). z ^ k ≤ r * n ^ k) e part in
          inr (e, zero_from_pow z k (omega (arith, zk, ap (λ (n : ℕ). r * n) (zero_pow k some))))
    ]

none_larger : (k r z1 z2 y1 y2 : ℕ) → 0 < k → r * (y1 + y2) ^ k < (z1 + z2) ^ k →
    (z1 * (y1 + y2) < y1 * (z1 + z2)) ⊎ ((y1 ≡ 0) × (z1 ≡ 0)) → (z2 * (y1 + y2) < y2 * (z1 + z2))
    ⊎ ((y2 ≡ 0) × (z2 ≡ 0)) → ⊥
none_larger k r z1 z2 y1 y2 pos whole (inl one) (inl two) = omega arith
none_larger k r z1 z2 y1 y2 pos whole (inl one) (inr two) =
    let e : z1 * (y1 + 0) < y1 * (z1 + 0) = subst (λ (n : ℕ). z1 * (y1 + n) < y1 * (z1 + 0)) two.0
    (subst (λ (n : ℕ). z1 * (y1 + y2) < y1 * (z1 + n)) two.1 one) in
    omega arith
none_larger k r z1 z2 y1 y2 pos whole (inr one) (inl two) =
    let e : z2 * (0 + y2) < y2 * (0 + z2) = subst (λ (n : ℕ). z2 * (n + y2) < y2 * (0 + z2)) one.0
    (subst (λ (n : ℕ). z2 * (y1 + y2) < y2 * (n + z2)) one.1 two) in
    omega arith
none_larger k r z1 z2 y1 y2 pos whole (inr one) (inr two) =
    let none : z1 + z2 ≡ 0 = omega arith in
    let sums : r * (y1 + y2) ^ k < 0 ^ k = subst (λ (n : ℕ). r * (y1 + y2) ^ k < n ^ k) none whole in
    omega (arith, zero_pow k pos)

pub powers_add : PowersAdd
powers_add k r z1 z2 y1 y2 pos one two =
    elim (cases_lt (r * (y1 + y2) ^ k) ((z1 + z2) ^ k)) [
      | inl whole ↦
          absurd (none_larger k r z1 z2 y1 y2 pos whole (cross k r z1 y1 (z1 + z2) (y1 + y2) pos one whole)
          (cross k r z2 y2 (z1 + z2) (y1 + y2) pos two whole))
      | inr fits ↦ fits
    ]

-- ---- the number of phases

-- were the bound broken, the part taken would be more than a share of k / m, m being q + 1
larger_part : (r kk rk mk dk : ℕ) → 0 < rk → rk ≤ r * dk → kk * r < mk → r * (kk * rk) < r * (mk * dk)
larger_part r kk rk mk dk pos large more = omega (arith, mul-le-mul_left mk large, mul-lt-mul_of_pos_right more pos)

-- and what is left would be too little
refuted : (k u m mk qk kk r left : ℕ) → m ≡ k + u → m * mk ≤ m * qk + k * mk → qk ≤ kk * left → kk * r < mk
    → m * left < u * r → 0 < kk → ⊥
refuted k u m mk qk kk r left e below rest more less pos =
    let a : m * qk ≤ m * (kk * left) = mul-le-mul_left m rest in
    let b : kk * (m * left) < kk * (u * r) = mul-lt-mul_of_pos_left less pos in
    let c : u * (kk * r) ≤ u * mk = mul-le-mul_left u (omega arith) in
    let d : m * mk ≡ k * mk + u * mk = omega (arith, ap (λ (n : ℕ). n * mk) e) in
    omega arith

pub one_phase : OnePhase
one_phase k r d q pos some fits large rest =
    elim (cases_lt (k ^ k * r) (suc q ^ k)) [
      | inl more ↦
          let shares : r * (k * r) ^ k < r * (suc q * d) ^ k =
          rw (mul-pow k r k, mul-pow (suc q) d k)
          (larger_part r (k ^ k) (r ^ k) (suc q ^ k) (d ^ k) (one-le-pow k r some) large more)
          in
          let share : k * r < suc q * d = lt_of_pow (k * r) (suc q * d) k (lt_of_mul-lt-mul_left r shares) in
          let within : k * r < suc q * r = omega (arith, mul-le-mul_left (suc q) fits) in
          let few : k < suc q = lt_of_mul-lt-mul_right r within in
          let e : suc q ≡ k + (suc q - k) = omega arith in
          let apart : suc q * (r - d) + suc q * d ≡ suc q * r = omega (arith, ap (λ (n : ℕ). suc q * n) (parts fits)) in
          let less : suc q * (r - d) < (suc q - k) * r = omega (arith, ap (λ (n : ℕ). n * r) e) in
          absurd (refuted k (suc q - k) (suc q) (suc q ^ k) (q ^ k) (k ^ k) r (r - d) e
          (bernoulli_below k q) rest more less (one-le-pow k k pos))
      | inr kept ↦ kept
    ]
  where
    parts : {r d : ℕ} → d ≤ r → (r - d) + d ≡ r
    parts h = omega arith

pub phases_bound : PhasesBound
phases_bound k n [] pos falls = omega (arith, zero_pow k pos)
phases_bound k n (d ∷ ds) pos falls = one_phase k n d (length ds) pos falls.0 falls.1 falls.2
    (phases_bound k (n - d) ds pos falls.3)
