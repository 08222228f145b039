use Rattle.std.proofs.Common.{rules}
use Rattle.net_graph.proofs.parents.makes_up.Goals as goal

pub returns-then-before-weight : goal.returns-then-before-weight
returns-then-before-weight c = search rules
