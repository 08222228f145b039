use Rattle.std.proofs.Common.{refl, arith}
use Rattle.std.proofs.lemmas.Bool.{false≢true}
use Rattle.worked_examples.proofs.covers.wrong_homes.Goals as goal

pub returns-clause-lacking : goal.returns-clause-lacking
returns-clause-lacking c = λ homes. false≢true ((homes 0 (omega arith)).1 1 refl)

pub returns-clause-beyond : goal.returns-clause-beyond
returns-clause-beyond c = λ homes. omega (arith, (homes 0 (omega arith)).0)
