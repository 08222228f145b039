use Rattle.region_plan.proofs.Covered.{coverings_homed}
use Rattle.region_plan.proofs.covering.covering_home_means.Goals as goal

pub returns : goal.returns
returns c = coverings_homed c.home_means.ensures c.mean_home_means.ensures
