use Rattle.std.proofs.Common.{refl}
use Rattle.worked_examples.proofs.closing.wrong_causes.Goals as goal

pub returns-clause-present : goal.returns-clause-present
returns-clause-present c = λ sub is cause. cause.1 0 sub refl is.low
