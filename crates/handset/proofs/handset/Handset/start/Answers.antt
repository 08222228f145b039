use Rattle.std.proofs.lemmas.Grind.{common_steps}
use Rattle.std.proofs.Common.{arith}
use Rattle.handset.proofs.handset.Handset.start.Goals as goal

pub gather-requires : goal.gather-requires
gather-requires c = grind (arith, common_steps)

pub renewal-renewed-requires : goal.renewal-renewed-requires
renewal-renewed-requires c = grind (arith, common_steps)

pub returns : goal.returns
returns c = grind (arith, common_steps)
