use Rattle.net_graph.specs.WalkLaws.{least_weight_back}
use Rattle.net_graph.proofs.laws.least_weight_turned.Goals as goal

pub returns : goal.returns
returns c = least_weight_back
