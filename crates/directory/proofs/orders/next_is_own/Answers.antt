use Rattle.directory.proofs.NextLaws.{next-actor}
use Rattle.directory.proofs.orders.next_is_own.Goals as goal

pub returns : goal.returns
returns c = next-actor
