use Rattle.std.proofs.Common.{◌<◌, ◌≤◌, arith}
use Rattle.worked_examples.proofs.trails.wrong_numbers.Goals as goal

pub returns-clause-same : goal.returns-clause-same
returns-clause-same c = λ up. let e : 4 < 4 = up in omega (arith, e)

pub returns-clause-here : goal.returns-clause-here
returns-clause-here c = λ up. let e : 4 ≤ 3 = up in omega (arith, e)

pub returns-clause-coming : goal.returns-clause-coming
returns-clause-coming c = λ up. let e : 4 ≤ 3 = up in omega (arith, e)

pub returns-clause-off : goal.returns-clause-off
returns-clause-off c = λ up. let e : 4 ≤ 3 = up in omega (arith, e)
