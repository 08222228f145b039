use Rattle.coarse_cover.proofs.Results.{clusters_shaped}
use Rattle.coarse_cover.proofs.laws.cluster_shape.Goals as goal

pub returns : goal.returns
returns c = clusters_shaped
