use Rattle.std.proofs.Common.{arith}
use Rattle.walk.proofs.Readers.{next-climbing}
use Rattle.walk.proofs.walk.Walk.next.Goals as goal

pub returns-in-Climbing : goal.returns-in-Climbing
returns-in-Climbing c =
    grind (arith, next-climbing)
