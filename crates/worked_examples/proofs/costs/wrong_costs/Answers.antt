use Rattle.std.proofs.Common.{◌≤◌, ◌+◌, None, Some, refl, arith}
use Rattle.trail_laws.specs.Trail.{IsLed}
use Rattle.worked_examples.proofs.costs.wrong_costs.Goals as goal

pub returns-clause-whole : goal.returns-clause-whole
unfolding IsLed
returns-clause-whole c = λ known least. (0, 0, omega arith, (refl, refl, refl), omega arith)

pub returns-clause-less : goal.returns-clause-less
returns-clause-less c = λ costs.
    let found = costs None tt in
    let far : 3 + found.1 ≤ 2 = found.4 in omega (arith, far)

pub returns-clause-leads : goal.returns-clause-leads
returns-clause-leads c = λ setting sub cluster history address costs.
    let found = costs None tt in (found.0, found.1, found.2, found.3)

pub returns-clause-known : goal.returns-clause-known
returns-clause-known c = λ setting sub cluster history address costs one.
    let found = costs (Some 1) (omega (arith, one)) in (found.0, found.1, found.2, found.3)
