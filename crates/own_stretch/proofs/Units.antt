-- How many units reach a weight.
use Rattle.std.proofs.Common.{◌≡◌, ℕ, suc, ◌+◌, ◌*◌, ◌≤◌, arith, inl, inr}
use Rattle.std.proofs.Math.Nat.{mul-le-mul_right}
use Rattle.std.proofs.lemmas.Bool.{cases_lt}
use Rattle.std.proofs.lemmas.Grind.{div_ceil_times}
use Rattle.own_stretch.specs.OwnStretch.{units_of}

-- they do, and so does any greater number of them
pub units-reach : (weight unit most : ℕ) → 1 ≤ unit → units_of weight unit ≤ most → weight ≤ most * unit
units-reach weight unit most some up =
    omega (arith, (div_ceil_times weight unit (omega (arith, some))).0, mul-le-mul_right unit up)

-- and no less do
pub units-least : (weight unit most : ℕ) → 1 ≤ unit → weight ≤ most * unit → units_of weight unit ≤ most
units-least weight unit most some enough = elim (cases_lt most (units_of weight unit)) [
  | inr fine ↦ fine
  | inl over ↦ absurd (omega (
    arith,
    enough,
    (div_ceil_times weight unit (omega (arith, some))).1,
    mul-le-mul_right unit (let h : suc most ≤ units_of weight unit = omega (arith, over) in h),
    (let e : suc most * unit ≡ most * unit + unit = grind arith in e),
  ))
]
