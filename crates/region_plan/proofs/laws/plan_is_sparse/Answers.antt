use Rattle.region_plan.proofs.Meaning.{sparse}
use Rattle.region_plan.proofs.laws.plan_is_sparse.Goals as goal

pub returns : goal.returns
returns c = sparse c.plan_means.ensures c.networks_have_distances.ensures c.covers_are_sparse.ensures
