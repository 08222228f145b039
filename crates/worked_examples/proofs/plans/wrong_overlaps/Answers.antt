use Rattle.std.proofs.Common.{◌<◌, ◌≤◌, arith}
use Rattle.worked_examples.proofs.plans.wrong_overlaps.Goals as goal

lowest : 0 < 1
lowest = omega arith

too-many : 25 ≤ 16 → ⊥
too-many e = omega (arith, e)

too-much : 2 ≤ 1 → ⊥
too-much e = omega (arith, e)

too-large : 81 ≤ 64 → ⊥
too-large e = omega (arith, e)

pub returns-clause-phases : goal.returns-clause-phases
returns-clause-phases c = λ few. too-many (few.phases 0 lowest)

pub returns-clause-read : goal.returns-clause-read
returns-clause-read c = λ few. too-much (few.read 0 2 lowest)

pub returns-clause-sum : goal.returns-clause-sum
returns-clause-sum c = λ small. too-large (small 0 lowest)
