use Rattle.std.proofs.Common.{arith}
use Rattle.handset.proofs.Begun.{new-stands}
use Rattle.handset.proofs.handset.Handset.new.Goals as goal

pub returns-clause-stands : goal.returns-clause-stands
returns-clause-stands c = grind (arith, new-stands)
