use Rattle.distances.proofs.Existing.{has_distances}
use Rattle.distances.proofs.laws.networks_have_distances.Goals as goal

pub returns : goal.returns
returns c = has_distances c.least_weight_is_found.ensures c.least_weight_is_bounded.ensures
