use Rattle.own_stretch.proofs.Least.{stretches-least}
use Rattle.own_stretch.proofs.laws.own_stretches_are_least.Goals as goal

pub returns : goal.returns
returns c = stretches-least
