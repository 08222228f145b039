use Rattle.std.proofs.Common.{rules}
use Rattle.walk.proofs.walk.Walk.climb.Goals as goal

pub returns-in-Climbing-clause-is : goal.returns-in-Climbing-clause-is
returns-in-Climbing-clause-is c = search rules

pub returns-in-Climbing-clause-over : goal.returns-in-Climbing-clause-over
returns-in-Climbing-clause-over c = search rules
