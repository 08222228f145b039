use Rattle.std.proofs.Common.{arith}
use Rattle.walk.proofs.Readers.{find-more}
use Rattle.walk.proofs.walk.Walk.saw.Goals as goal

pub returns-clause-stands : goal.returns-clause-stands
returns-clause-stands c = λ words stands. grind (arith, find-more)
