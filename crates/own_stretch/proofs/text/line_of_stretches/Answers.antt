use Rattle.std.proofs.Common.{refl}
use Rattle.std.specs.Fmt.{digits}
use Rattle.own_stretch.proofs.text.line_of_stretches.Goals as goal

pub returns : goal.returns
unfolding digits
returns c = refl
