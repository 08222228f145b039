use Rattle.std.proofs.Common.{refl}
use Rattle.std.specs.Fmt.{digits}
use Rattle.input_text.proofs.examples.example_texts.Goals as goal

pub returns : goal.returns
unfolding digits
returns c = refl
