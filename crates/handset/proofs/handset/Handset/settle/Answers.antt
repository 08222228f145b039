use Rattle.std.proofs.lemmas.Grind.{common_steps}
use Rattle.std.proofs.Common.{arith}
use Rattle.handset.proofs.handset.Handset.settle.Goals as goal

pub mark-requires : goal.mark-requires
mark-requires c = grind (arith, common_steps)

pub returns : goal.returns
returns c = grind (arith, common_steps)
