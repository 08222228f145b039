-- The own stretch of the line of four.
use Rattle.std.proofs.Common.{zero, suc, refl, arith}
use Rattle.plan_laws.specs.Examples.{line_setting}
use Rattle.busy_finds.specs.Levels.{IsOwnStretch, reaching}

pub line-own : IsOwnStretch line_setting 14
unfolding reaching
line-own zero zero low high apart = absurd (apart refl)
line-own zero (suc zero) low high apart = omega arith
line-own zero (suc (suc zero)) low high apart = omega arith
line-own zero (suc (suc (suc zero))) low high apart = omega arith
line-own zero (suc (suc (suc (suc to)))) low high apart = absurd (omega (arith, high))
line-own (suc zero) zero low high apart = omega arith
line-own (suc zero) (suc zero) low high apart = absurd (apart refl)
line-own (suc zero) (suc (suc zero)) low high apart = omega arith
line-own (suc zero) (suc (suc (suc zero))) low high apart = omega arith
line-own (suc zero) (suc (suc (suc (suc to)))) low high apart = absurd (omega (arith, high))
line-own (suc (suc zero)) zero low high apart = omega arith
line-own (suc (suc zero)) (suc zero) low high apart = omega arith
line-own (suc (suc zero)) (suc (suc zero)) low high apart = absurd (apart refl)
line-own (suc (suc zero)) (suc (suc (suc zero))) low high apart = omega arith
line-own (suc (suc zero)) (suc (suc (suc (suc to)))) low high apart = absurd (omega (arith, high))
line-own (suc (suc (suc zero))) zero low high apart = omega arith
line-own (suc (suc (suc zero))) (suc zero) low high apart = omega arith
line-own (suc (suc (suc zero))) (suc (suc zero)) low high apart = omega arith
line-own (suc (suc (suc zero))) (suc (suc (suc zero))) low high apart = absurd (apart refl)
line-own (suc (suc (suc zero))) (suc (suc (suc (suc to)))) low high apart = absurd (omega (arith, high))
line-own (suc (suc (suc (suc from)))) to low high apart = absurd (omega (arith, low))
