use Rattle.std.proofs.Common.{rules}
use Rattle.region_plan.proofs.building.push_levels.Goals as goal

pub loop-i-preserved : goal.loop-i-preserved
loop-i-preserved c = search rules
