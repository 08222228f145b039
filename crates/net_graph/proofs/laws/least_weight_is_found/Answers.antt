use Rattle.net_graph.proofs.LeastWalks.{is_found}
use Rattle.net_graph.proofs.laws.least_weight_is_found.Goals as goal

pub returns : goal.returns
returns c = is_found
