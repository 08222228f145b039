use Rattle.std.proofs.Common.{rules}
use Rattle.walk.proofs.steps.at_mark.Goals as goal

pub returns-then-is_some_and-clause-pursuit : goal.returns-then-is_some_and-clause-pursuit
returns-then-is_some_and-clause-pursuit c = search rules
