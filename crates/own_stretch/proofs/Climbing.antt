-- The level at which a climb ends, level by level.
use Rattle.std.proofs.Common.{◌≡◌, ℕ, zero, suc, Bool, true, false, cond, ◌+◌, ◌-◌, ◌*◌, ◌<◌, ◌≤◌, refl, sym, ap, ◌∙◌, arith}
use Rattle.std.specs.Prelude.{nat_le}
use Rattle.std.proofs.lemmas.Bool.{le-leb, lt-leb}
use Rattle.stretch_laws.specs.Tracking.{radius}
use Rattle.busy_finds.specs.Levels.{reaching}

near-one : (distance level more : ℕ) → 2 * distance ≤ radius level + 1 → reaching distance level (suc more) ≡ level
unfolding reaching
near-one distance level more near = rw (le-leb (2 * distance) (radius level + 1) near) refl

far-one : (distance level more : ℕ) → radius level + 1 < 2 * distance
    → reaching distance level (suc more) ≡ reaching distance (suc level) more
unfolding reaching
far-one distance level more far = rw (lt-leb (2 * distance) (radius level + 1) far) refl

none-left : (distance level : ℕ) → reaching distance level 0 ≡ level
unfolding reaching
none-left distance level = refl

-- it isn't above the last
pub reaching-low : (distance level more : ℕ) → reaching distance level more ≤ level + more
unfolding reaching
reaching-low distance level zero = omega arith
reaching-low distance level (suc more) =
    at_test (nat_le (2 * distance) (radius level + 1)) (reaching-low distance (suc level) more)
  where
    at_test : (b : Bool) → reaching distance (suc level) more ≤ suc level + more
        → cond b level (reaching distance (suc level) more) ≤ level + suc more
    at_test true rest = omega arith
    at_test false rest = omega (arith, rest)

module _ (distance level top : ℕ) (left : reaching distance level (top - level) ≡ reaching distance 0 top) where
  pub near-level : level < top → 2 * distance ≤ radius level + 1 → level ≡ reaching distance 0 top
  near-level low near =
      let e : top - level ≡ suc (top - (level + 1)) = omega (arith, low) in
      sym (near-one distance level (top - (level + 1)) near) ∙ (sym (ap (reaching distance level) e) ∙ left)

  pub next-level : level < top → radius level + 1 < 2 * distance
      → reaching distance (level + 1) (top - (level + 1)) ≡ reaching distance 0 top
  next-level low far =
      let e : top - level ≡ suc (top - (level + 1)) = omega (arith, low) in
      let f : level + 1 ≡ suc level = omega arith in
      ap (λ n. reaching distance n (top - (level + 1))) f
      ∙ (sym (far-one distance level (top - (level + 1)) far) ∙ (sym (ap (reaching distance level) e) ∙ left))

  pub at-top : level ≡ top → top ≡ reaching distance 0 top
  at-top same =
      let e : top - level ≡ 0 = omega (arith, same) in
      sym same ∙ (sym (none-left distance level) ∙ (sym (ap (reaching distance level) e) ∙ left))
