use Rattle.move_cost.proofs.MoveParts.{move-weighs}
use Rattle.move_cost.proofs.laws.move_weighs.Goals as goal

pub returns : goal.returns
returns c = move-weighs
