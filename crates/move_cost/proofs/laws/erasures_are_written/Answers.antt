use Rattle.move_cost.proofs.MoveParts.{erasures-written}
use Rattle.move_cost.proofs.laws.erasures_are_written.Goals as goal

pub returns : goal.returns
returns c = erasures-written
