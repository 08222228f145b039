use Rattle.move_cost.proofs.Opening.{lines-bounded}
use Rattle.move_cost.proofs.laws.lines_are_within_rate.Goals as goal

pub returns : goal.returns
returns c = lines-bounded c.plans_are_paced.ensures c.written_is_bounded.ensures c.purged_is_bounded.ensures
