-- The level at which a climb ends: its radius is less than four times the distance.
use Rattle.std.proofs.lemmas.Bool.Decides.{nat_tests}
use Rattle.std.proofs.Common.{◌≡◌, ◌⊎◌, inl, inr, ℕ, zero, suc, ◌+◌, ◌-◌, ◌*◌, ◌<◌, ◌≤◌, ◌^◌, ap, ◌∙◌, arith}
use Rattle.std.proofs.Math.Nat.{mul-le-mul_left, mul_left_comm}
use Rattle.directory.specs.Settings.{Setting}
use Rattle.stretch_laws.specs.Tracking.{radius, stretch}
use Rattle.std.proofs.lemmas.Bool.{cases_lt}

-- a level whose radius is less than four times the distance, and that is the top level or reaches as far as the
-- distance and what it has gathered
pub record Ends (setting : Setting) (d : ℕ) : Type 0 where
  pub level : ℕ
  pub low : level ≤ setting.top
  pub small : radius level < 4 * d
  pub reaches : (level ≡ setting.top) ⊎ (d + setting.threshold level ≤ radius level + 1)

twice : (level : ℕ) → 2 ^ suc level ≡ 2 * 2 ^ level
twice level = omega arith

ends-from : (setting : Setting) (d : ℕ) → ((i : ℕ) → i ≤ setting.top → 2 * setting.threshold i ≤ radius i + 1)
    → (fuel level : ℕ) → fuel + level ≡ setting.top → radius level < 4 * d → Ends setting d
ends-from setting d halves zero level count small = record {
  level = level;
  low = omega (arith, count);
  small = small;
  reaches = inl (let e : level ≡ setting.top = omega (arith, count) in e);
}
ends-from setting d halves (suc fuel) level count small =
    at_case (cases_lt (radius level + 1) (d + setting.threshold level))
    (λ small_next. ends-from setting d halves fuel (suc level) (omega (arith, count)) small_next)
  where
    at_case : (radius level + 1 < d + setting.threshold level) ⊎ (d + setting.threshold level ≤ radius level + 1)
        → (radius (suc level) < 4 * d → Ends setting d) → Ends setting d
    at_case (inr near) next = record { level = level; low = omega (arith, count); small = small; reaches = inr near }
    at_case (inl more) next = next (omega (arith, twice level, more, halves level (omega (arith, count))))

pub ends : (setting : Setting) (d : ℕ) → ((i : ℕ) → i ≤ setting.top → 2 * setting.threshold i ≤ radius i + 1)
    → 1 ≤ d → Ends setting d
ends setting d halves some = ends-from setting d halves setting.top 0 (omega arith)
    (let e : 2 ^ 0 ≡ 1 = omega arith in omega (arith, e, some))

-- a multiple of the radius of a level, and how it grows
pub scaled-next : (w level : ℕ) → w * 2 ^ suc level ≡ 2 * (w * 2 ^ level)
scaled-next w level = ap (λ n. w * n) (twice level) ∙ mul_left_comm w 2 (2 ^ level)

pub scaled_twice : (readers width level : ℕ) → readers * (width * 2 ^ suc level) ≡ 2 * (readers * (width * 2 ^ level))
scaled_twice readers width level = grind (arith, scaled-next, mul_left_comm)

scaled-by : (w i k : ℕ) → w * 2 ^ i ≤ w * 2 ^ (k + i)
scaled-by w i zero = let e : 0 + i ≡ i = omega arith in rw e (omega arith)
scaled-by w i (suc k) = grind (arith, nat_tests, scaled-next w (k + i), scaled-by w i k)

pub scaled-more : (w i j : ℕ) → i ≤ j → w * 2 ^ i ≤ w * 2 ^ j
scaled-more w i j h = grind (arith, nat_tests, scaled-by w i (j - i))

-- the reading and the chase are within the stretch
spread : (m w d : ℕ) → (16 * m * w + 12 * w + 5) * d ≡ 16 * (m * (w * d)) + 12 * (w * d) + 5 * d
spread m w d = grind arith

pub by_width : (w d r : ℕ) → r < 4 * d → w * r ≤ 4 * (w * d)
by_width w d r small =
    let low : r ≤ 4 * d = omega (arith, small) in omega (arith, mul-le-mul_left w low, mul_left_comm w 4 d)

pub within-stretch : (m w d r : ℕ) → r < 4 * d
    → 4 * (m * (w * r)) + (3 * (w * r) + r + d) ≤ stretch w m * d
within-stretch m w d r small =
    let wide = by_width w d r small in
    omega (arith, spread m w d, wide, mul-le-mul_left m wide, mul_left_comm m 4 (w * d))

pub within-one : (m w d : ℕ) → d ≤ stretch w m * d
within-one m w d = omega (arith, spread m w d)
