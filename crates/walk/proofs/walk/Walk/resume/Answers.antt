use Rattle.std.proofs.Common.{rules}
use Rattle.walk.proofs.walk.Walk.resume.Goals as goal

pub returns-clause-exact : goal.returns-clause-exact
returns-clause-exact c = search rules
