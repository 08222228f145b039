use Rattle.std.proofs.Common.{rules}
use Rattle.make_load.proofs.draws.draw_other_edge.Goals as goal

pub returns-clause-value : goal.returns-clause-value
returns-clause-value c = search rules
