use Rattle.net_graph.proofs.Replacing.{unreached_back}
use Rattle.net_graph.proofs.laws.unreached_turned.Goals as goal

pub returns : goal.returns
returns c = unreached_back
