use Rattle.std.proofs.lemmas.Grind.{common_steps}
use Rattle.std.proofs.Common.{arith}
use Rattle.region_plan.proofs.building.push_levels_by_spread.Goals as goal

pub push_levels_in_workspace-requires : goal.push_levels_in_workspace-requires
push_levels_in_workspace-requires c = grind (arith, common_steps)
