use Rattle.std.proofs.Common.{arith}
use Rattle.worked_examples.proofs.plans.wrong_plans.Goals as goal

pub returns-clause-empty : goal.returns-clause-empty
returns-clause-empty c = λ plan kept none. omega (arith, kept.some, none)

pub returns-clause-high : goal.returns-clause-high
returns-clause-high c = λ plan kept many. omega (arith, kept.few, many)

pub returns-clause-no_k : goal.returns-clause-no_k
returns-clause-no_k c = λ plan kept none. omega (arith, kept.low, none)

pub returns-clause-great_k : goal.returns-clause-great_k
returns-clause-great_k c = λ plan kept nine. omega (arith, kept.high, nine)

pub returns-clause-reach : goal.returns-clause-reach
returns-clause-reach c = λ plan kept far. omega (arith, kept.near, far)

pub returns-clause-homes : goal.returns-clause-homes
returns-clause-homes c = λ level sized three. omega (arith, sized.homes, three)

pub returns-clause-readers : goal.returns-clause-readers
returns-clause-readers c = λ level sized three. omega (arith, sized.readers, three)

pub returns-clause-clusters : goal.returns-clause-clusters
returns-clause-clusters c = λ level sized five. omega (arith, sized.clusters, five)

pub returns-clause-exponent : goal.returns-clause-exponent
returns-clause-exponent c = λ level sized much. omega (arith, sized.exponent, much)
