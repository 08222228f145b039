use Rattle.std.proofs.Common.{refl}
use Rattle.text_line.proofs.line.Line.clear.Goals as goal

pub returns : goal.returns
returns c = refl
