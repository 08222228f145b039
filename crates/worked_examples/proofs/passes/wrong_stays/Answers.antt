use Rattle.std.proofs.Common.{◌<◌, arith, sym, ◌∙◌, subst}
use Rattle.station.specs.Setup.{Setup, nodes_in}
use Rattle.worked_examples.proofs.Square.{same}
use Rattle.worked_examples.proofs.Unlike.{none-no}
use Rattle.worked_examples.proofs.passes.wrong_stays.Goals as goal

pub returns-clause-outside : goal.returns-clause-outside
returns-clause-outside c = λ stay pass outside is. none-no stay.node (sym outside ∙ is.inside)

pub returns-clause-elsewhere : goal.returns-clause-elsewhere
returns-clause-elsewhere c = λ stay pass inside elsewhere is.
    omega (arith, elsewhere, same 2 stay.node (sym inside ∙ is.inside))

pub returns-clause-other : goal.returns-clause-other
returns-clause-other c = λ stay pass has other is. omega (arith, other, is.actor, has.low)

pub returns-clause-unknown : goal.returns-clause-unknown
returns-clause-unknown c = λ stay pass has four is.
    let few : stay.node < 4 = subst (λ (setup : Setup). stay.node < nodes_in setup) has.setup is.known in
    omega (arith, four, few)
