use Rattle.net_graph.specs.WalkLaws.{triangle}
use Rattle.net_graph.proofs.laws.least_weights_add_up.Goals as goal

pub returns : goal.returns
returns c = triangle
