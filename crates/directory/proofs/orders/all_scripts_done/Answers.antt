use Rattle.directory.proofs.OrderLaws.{all-done, history-longer}
use Rattle.directory.proofs.orders.all_scripts_done.Goals as goal

pub returns : goal.returns
returns c = record { done = all-done; longer = history-longer }
