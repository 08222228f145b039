use Rattle.net_reader.proofs.ValidInput.{inputs_are_valid}
use Rattle.net_reader.proofs.laws.inputs_are_valid.Goals as goal

pub returns : goal.returns
returns c = inputs_are_valid
