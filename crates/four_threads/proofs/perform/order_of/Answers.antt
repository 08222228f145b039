use Rattle.std.proofs.lemmas.Grind.{common_steps}
use Rattle.std.proofs.Common.{arith}
use Rattle.four_threads.proofs.perform.order_of.Goals as goal

pub close-requires : goal.close-requires
close-requires c = grind (arith, common_steps)
