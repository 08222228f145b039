use Rattle.std.proofs.Common.{arith}
use Rattle.machine.specs.WalkingLaws.{walk-at}
use Rattle.machine.proofs.caller.walk_at.Goals as goal

pub returns-in-Find : goal.returns-in-Find
returns-in-Find c = grind (arith, walk-at)
