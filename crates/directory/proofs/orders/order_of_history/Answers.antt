use Rattle.directory.proofs.OrderLaws.{completed, same-again}
use Rattle.directory.proofs.orders.order_of_history.Goals as goal

pub returns : goal.returns
returns c = record { completed = completed; done = same-again }
