use Rattle.move_cost.proofs.Opening.{network-bounded}
use Rattle.move_cost.proofs.laws.network_lines_are_within_rate.Goals as goal

pub returns : goal.returns
returns c = network-bounded c.plan_is_bounding.ensures c.plan_means.ensures c.lines_are_within_rate.ensures
