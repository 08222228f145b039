use Rattle.std.proofs.Common.{rules}
use Rattle.region_plan.proofs.plan.Plan.most_writes.Goals as goal

pub returns : goal.returns
returns c = search rules
