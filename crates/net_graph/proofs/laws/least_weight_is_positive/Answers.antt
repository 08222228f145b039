use Rattle.net_graph.specs.WalkLaws.{least_positive}
use Rattle.net_graph.proofs.laws.least_weight_is_positive.Goals as goal

pub returns : goal.returns
returns c = least_positive
