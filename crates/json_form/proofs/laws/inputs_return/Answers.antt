use Rattle.json_form.proofs.Return.{returned}
use Rattle.json_form.proofs.laws.inputs_return.Goals as goal

pub returns : goal.returns
returns c = returned c.inputs_read.ensures
