use Rattle.net_graph.proofs.Replacing.{least_of_step}
use Rattle.net_graph.proofs.laws.least_weight_of_a_step.Goals as goal

pub returns : goal.returns
returns c = least_of_step
