use Rattle.std.proofs.Common.{rules}
use Rattle.net_graph.proofs.weights.greatest_weight.Goals as goal

pub returns-clause-bound : goal.returns-clause-bound
returns-clause-bound c = search rules
