use Rattle.net_graph.proofs.LeastWalks.{is_bounded}
use Rattle.net_graph.proofs.laws.least_weight_is_bounded.Goals as goal

pub returns : goal.returns
returns c = is_bounded
