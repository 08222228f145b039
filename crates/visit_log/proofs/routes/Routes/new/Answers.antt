use Rattle.std.proofs.Common.{arith}
use Rattle.std.proofs.Math.Nat.{le_antisymm}
use Rattle.visit_log.proofs.routes.Routes.new.Goals as goal

pub returns : goal.returns
returns c = grind (arith, le_antisymm)
