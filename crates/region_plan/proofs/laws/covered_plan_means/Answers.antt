use Rattle.region_plan.proofs.Meaning.{means}
use Rattle.region_plan.proofs.laws.covered_plan_means.Goals as goal

pub returns : goal.returns
returns c = means c.least_weight_is_found.ensures c.networks_have_distances.ensures c.covering_shape.ensures
