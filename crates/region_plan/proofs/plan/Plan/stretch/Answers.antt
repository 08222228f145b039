use Rattle.std.proofs.Common.{rules}
use Rattle.region_plan.proofs.plan.Plan.stretch.Goals as goal

pub returns-clause-exact : goal.returns-clause-exact
returns-clause-exact c = search rules
