use Rattle.std.proofs.Common.{arith}
use Rattle.tracker_calls.proofs.finds.find_now.Goals as goal

pub returns-in-Ok-walk_on : goal.returns-in-Ok-walk_on
returns-in-Ok-walk_on c =
    grind arith
