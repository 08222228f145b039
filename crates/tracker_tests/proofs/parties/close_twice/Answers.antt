use Rattle.std.proofs.lemmas.Grind.{common_steps}
use Rattle.std.proofs.Common.{arith}
use Rattle.tracker_tests.proofs.parties.close_twice.Goals as goal

pub close-requires : goal.close-requires
close-requires c = grind (arith, common_steps)

pub order_of-requires : goal.order_of-requires
order_of-requires c = grind (arith, common_steps)
