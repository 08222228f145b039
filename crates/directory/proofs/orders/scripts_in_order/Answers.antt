use Rattle.directory.proofs.NextLaws.{played-own, played-puts}
use Rattle.directory.proofs.orders.scripts_in_order.Goals as goal

pub returns : goal.returns
returns c = record { script = played-own; alone = played-puts }
