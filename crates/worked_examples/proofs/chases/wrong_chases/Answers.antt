use Rattle.std.proofs.Common.{◌<◌, ◌≤◌, arith}
use Rattle.worked_examples.proofs.chases.wrong_chases.Goals as goal

pub returns-clause-lower : goal.returns-clause-lower
returns-clause-lower c = λ on. let e : 4 ≤ 3 = on.0 in omega (arith, e)

pub returns-clause-same : goal.returns-clause-same
returns-clause-same c = λ on. let e : 4 < 4 = on.0 in omega (arith, e)

pub returns-clause-two_lower : goal.returns-clause-two_lower
returns-clause-two_lower c = λ on. let e : 4 ≤ 3 = on.0 in omega (arith, e)

pub returns-clause-back_lower : goal.returns-clause-back_lower
returns-clause-back_lower c = λ on. let e : 4 ≤ 3 = on.0 in omega (arith, e)

pub returns-clause-coming_lower : goal.returns-clause-coming_lower
returns-clause-coming_lower c = λ on. let e : 4 ≤ 3 = on.0 in omega (arith, e)

pub returns-clause-off_lower : goal.returns-clause-off_lower
returns-clause-off_lower c = λ on. let e : 4 ≤ 3 = on.0 in omega (arith, e)

pub returns-clause-behind_here : goal.returns-clause-behind_here
returns-clause-behind_here c = λ on. on.0

pub returns-clause-behind_off : goal.returns-clause-behind_off
returns-clause-behind_off c = λ on. on.0

pub returns-clause-behind_empty : goal.returns-clause-behind_empty
returns-clause-behind_empty c = λ on. on.0

pub returns-clause-later : goal.returns-clause-later
returns-clause-later c = λ on. let e : 4 ≤ 3 = on.1.0 in omega (arith, e)

pub returns-clause-again : goal.returns-clause-again
returns-clause-again c = λ rises. let e : 4 < 4 = rises.1.0.0 in omega (arith, e)

pub returns-clause-may_follow : goal.returns-clause-may_follow
returns-clause-may_follow c = (omega arith, (omega arith, tt))

pub returns-clause-fallen : goal.returns-clause-fallen
returns-clause-fallen c = λ rises. let e : 4 ≤ 3 = rises.2.0.1.0 in omega (arith, e)

pub returns-clause-far : goal.returns-clause-far
returns-clause-far c = λ rises. let e : 4 ≤ 3 = rises.2.0.1.1.0 in omega (arith, e)

pub returns-clause-behind_both : goal.returns-clause-behind_both
returns-clause-behind_both c = λ rises. let e : 4 ≤ 3 = rises.2.0.1.0 in omega (arith, e)

pub returns-clause-may_fall : goal.returns-clause-may_fall
returns-clause-may_fall c =
    (omega arith, (omega arith, (omega arith, (omega arith, tt))))
