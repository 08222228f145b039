use Rattle.move_cost.proofs.MoveParts.{purges-counted}
use Rattle.move_cost.proofs.laws.purges_are_counted.Goals as goal

pub returns : goal.returns
returns c = purges-counted
