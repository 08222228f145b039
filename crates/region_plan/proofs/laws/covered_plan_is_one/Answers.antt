use Rattle.region_plan.proofs.Meaning.{plan_is_this}
use Rattle.region_plan.proofs.laws.covered_plan_is_one.Goals as goal

pub returns : goal.returns
returns c = plan_is_this c.covered_plan_means.ensures c.distances_are_one.ensures c.least_weight_is_one.ensures
