use Rattle.move_cost.proofs.Purging.{purged-bounded}
use Rattle.move_cost.proofs.laws.purged_is_bounded.Goals as goal

pub returns : goal.returns
returns c = purged-bounded c.purges_are_counted.ensures c.base_after.ensures
