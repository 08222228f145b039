use Rattle.input_text.proofs.ByActor.{inputs_read}
use Rattle.input_text.proofs.laws.inputs_read.Goals as goal

pub returns : goal.returns
returns c = inputs_read
