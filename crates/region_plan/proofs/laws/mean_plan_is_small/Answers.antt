use Rattle.region_plan.proofs.Meaning.{small}
use Rattle.region_plan.proofs.laws.mean_plan_is_small.Goals as goal

pub returns : goal.returns
returns c = small c.covered_plan_means.ensures c.networks_have_distances.ensures c.mean_covers_are_small.ensures
