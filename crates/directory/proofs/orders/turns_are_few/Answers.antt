use Rattle.directory.proofs.OrderLaws.{next-few}
use Rattle.directory.proofs.GrowthLaws.{turns-end}
use Rattle.directory.proofs.orders.turns_are_few.Goals as goal

pub returns : goal.returns
returns c = record { few = next-few; alike = turns-end }
