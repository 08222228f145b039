use Rattle.std.proofs.lemmas.Grind.{common_steps}
use Rattle.std.proofs.Common.{◌*◌, ◌^◌, ◌≤◌, arith}
use Rattle.move_cost.proofs.Fitting.{inside-small}
use Rattle.move_cost.proofs.weights.entry_weight.Goals as goal
use Rattle.move_cost.proofs.weights.entry_weight.Goals.{After-weight_inside}

is-small : (c : After-weight_inside) → c.weight_inside.result ≤ 17 * 2 ^ 30
is-small c =
    grind (arith, inside-small)

pub overflow_mul-result : goal.overflow_mul-result
overflow_mul-result c = omega (arith, is-small c)

pub returns-in-Some-clause-small : goal.returns-in-Some-clause-small
returns-in-Some-clause-small c = omega (arith, is-small c)

pub returns-in-None-clause-weight : goal.returns-in-None-clause-weight
returns-in-None-clause-weight c = grind (arith, common_steps)

pub overflow_mul-result-in-None : goal.overflow_mul-result-in-None
overflow_mul-result-in-None c = grind (arith, common_steps)

pub returns-in-None-clause-small : goal.returns-in-None-clause-small
returns-in-None-clause-small c = grind (arith, common_steps)
