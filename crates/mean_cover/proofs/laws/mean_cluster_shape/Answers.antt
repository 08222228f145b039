use Rattle.mean_cover.proofs.Results.{clusters_shaped}
use Rattle.mean_cover.proofs.laws.mean_cluster_shape.Goals as goal

pub returns : goal.returns
returns c = clusters_shaped
