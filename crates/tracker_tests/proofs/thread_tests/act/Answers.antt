use Rattle.std.proofs.lemmas.Grind.{common_steps}
use Rattle.std.proofs.Common.{arith}
use Rattle.tracker_tests.proofs.thread_tests.act.Goals as goal

pub find_beside-both-requires : goal.find_beside-both-requires
find_beside-both-requires c = grind (arith, common_steps)

pub look_at_once-a-requires : goal.look_at_once-a-requires
look_at_once-a-requires c = grind (arith, common_steps)

pub move_beside-both-requires : goal.move_beside-both-requires
move_beside-both-requires c = grind (arith, common_steps)
