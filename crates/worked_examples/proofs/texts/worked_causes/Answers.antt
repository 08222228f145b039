use Rattle.std.proofs.Common.{refl}
use Rattle.std.specs.Fmt.{digits}
use Rattle.worked_examples.proofs.texts.worked_causes.Goals as goal

pub returns : goal.returns
unfolding digits
returns c = refl
