use Rattle.std.proofs.Common.{refl}
use Rattle.node_set.specs.Balls.{least}
use Rattle.worked_examples.proofs.plans.worked_levels.Goals as goal

pub returns-clause-tops : goal.returns-clause-tops
unfolding least
returns-clause-tops c = refl
