use Rattle.std.proofs.Common.{rules}
use Rattle.tracker_calls.proofs.finds.begin_walk.Goals as goal

pub returns-then-spare-need : goal.returns-then-spare-need
returns-then-spare-need c = search rules
