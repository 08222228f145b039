use Rattle.region_plan.proofs.Covered.{coverings_shaped}
use Rattle.region_plan.proofs.covering.covering_shape.Goals as goal

pub returns : goal.returns
returns c = coverings_shaped c.cluster_shape.ensures c.mean_cluster_shape.ensures
