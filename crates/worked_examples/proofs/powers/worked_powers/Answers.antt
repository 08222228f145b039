use Rattle.std.proofs.Common.{◌≤◌, ◌^◌, inl, inr, length, refl, arith}
use Rattle.std.proofs.lemmas.Bool.{cases_lt}
use Rattle.std.proofs.Math.Nat.{pow-le-pow_left}
use Rattle.worked_examples.proofs.powers.worked_powers.Goals as goal

pub returns-clause-above : goal.returns-clause-above
returns-clause-above c = λ x. c.bernoulli.ensures.above 3 x

pub returns-clause-below : goal.returns-clause-below
returns-clause-below c = λ q. c.bernoulli.ensures.below 3 q

pub returns-clause-falls : goal.returns-clause-falls
returns-clause-falls c =
    let first : 16 ≤ 16 = omega arith in
    let second : 4 ≤ 8 = omega arith in
    (omega arith, omega arith, first, (omega arith, omega arith, second, refl))

pub returns-clause-phases : goal.returns-clause-phases
returns-clause-phases c = λ parts falls. elim (cases_lt 4 (length parts)) [
  | inl more ↦
      let low : 25 ≤ length parts ^ 2 = pow-le-pow_left more 2 in
      let high : length parts ^ 2 ≤ 16 = c.phases_bound.ensures 2 4 parts (omega arith) falls in
      absurd (omega (arith, low, high))
  | inr few ↦ few
]
