use Rattle.net_graph.proofs.Nearing.{near_just_within}
use Rattle.net_graph.proofs.laws.near_nodes_are_within.Goals as goal

pub returns : goal.returns
returns c = near_just_within
