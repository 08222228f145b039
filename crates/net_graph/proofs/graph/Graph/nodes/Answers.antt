use Rattle.std.proofs.Common.{rules}
use Rattle.net_graph.proofs.graph.Graph.nodes.Goals as goal

pub returns-clause-count : goal.returns-clause-count
returns-clause-count c = search rules
