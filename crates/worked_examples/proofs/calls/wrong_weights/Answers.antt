use Rattle.std.proofs.Common.{◌≤◌, arith}
use Rattle.directory.specs.Courses.{highest}
use Rattle.directory.specs.Histories.{tickets_from, words_after}
use Rattle.directory.specs.Puts.{steps_from}
use Rattle.directory.specs.Writes.{writes}
use Rattle.worked_examples.proofs.calls.wrong_weights.Goals as goal

pub returns-clause-passing : goal.returns-clause-passing
unfolding writes highest steps_from
returns-clause-passing c = λ its. let most : 3 ≤ 2 = its.1 in omega (arith, most)

pub returns-clause-busy : goal.returns-clause-busy
unfolding tickets_from words_after writes highest steps_from
returns-clause-busy c = λ bounds old tells.
    let most : 433 ≤ 432 = tells.priced bounds 9 (omega arith) (omega arith) in omega (arith, most)
