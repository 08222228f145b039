use Rattle.json_form.proofs.Told.{shapes-taken}
use Rattle.json_form.proofs.laws.shapes_are_taken.Goals as goal

pub returns : goal.returns
returns c = shapes-taken
