use Rattle.std.proofs.Common.{rules}
use Rattle.region_plan.proofs.building.threshold_for.Goals as goal

pub returns-else-i-eq0 : goal.returns-else-i-eq0
returns-else-i-eq0 c = search rules
