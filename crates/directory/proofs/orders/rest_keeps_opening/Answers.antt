use Rattle.directory.proofs.RestLaws.{rest-keeps}
use Rattle.directory.proofs.orders.rest_keeps_opening.Goals as goal

pub returns : goal.returns
returns c = rest-keeps
