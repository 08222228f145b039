use Rattle.directory.proofs.NextLaws.{after_turns-done}
use Rattle.directory.proofs.orders.idle_turns.Goals as goal

pub returns : goal.returns
returns c = after_turns-done
