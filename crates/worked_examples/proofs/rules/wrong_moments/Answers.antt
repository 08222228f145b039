use Rattle.std.proofs.Common.{◌≡◌, [], arith, refl}
use Rattle.worked_examples.proofs.rules.wrong_moments.Goals as goal

pub returns-clause-won : goal.returns-clause-won
returns-clause-won c = λ setup state seat view moment at inside other.
    let mine : view.low ≡ 0 = moment seat view at inside in omega (arith, mine, other)

pub returns-clause-given_back : goal.returns-clause-given_back
returns-clause-given_back c = λ setup state seat view moment at inside other.
    let mine : view.low ≡ 0 = moment seat view at inside in omega (arith, mine, other)

pub returns-clause-locked : goal.returns-clause-locked
returns-clause-locked c = λ setup state locks known. locks.words 2 known

pub returns-clause-held : goal.returns-clause-held
returns-clause-held c = λ setup state locks known. locks.inside 2 5 known refl

pub returns-clause-absent : goal.returns-clause-absent
returns-clause-absent c = λ setup seat event old new comes same. comes.absent ([], same)

pub returns-clause-there : goal.returns-clause-there
returns-clause-there c = λ setup seat earlier event old new comes. comes.there
