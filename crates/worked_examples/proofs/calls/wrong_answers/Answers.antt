use Rattle.std.proofs.Common.{◌≤◌, refl, arith}
use Rattle.directory.specs.Standing.{number}
use Rattle.worked_examples.proofs.calls.wrong_answers.Goals as goal

pub returns-clause-older : goal.returns-clause-older
returns-clause-older c = λ setup old call made seen one tells.
    let low : number call.sub old.view.seen ≤ 0 = tells.newer 0 refl in omega (arith, one, low)

pub returns-clause-older_off : goal.returns-clause-older_off
returns-clause-older_off c = λ setup old call made seen one tells.
    let low : number call.sub old.view.seen ≤ 0 = tells.newer 0 refl in omega (arith, one, low)
