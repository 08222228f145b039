use Rattle.std.proofs.Common.{arith}
use Rattle.region_plan.proofs.Shapes.{level_pushed}
use Rattle.region_plan.proofs.sharing.Levels.push_table.Goals as goal

pub returns : goal.returns
returns c = grind (arith, level_pushed)
