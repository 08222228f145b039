use Rattle.std.proofs.lemmas.Grind.{common_steps}
use Rattle.std.proofs.Common.{arith}
use Rattle.handset.proofs.handset.Handset.due.Goals as goal

pub returns-in-Erasing : goal.returns-in-Erasing
returns-in-Erasing c = grind (arith, common_steps)
