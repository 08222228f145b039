use Rattle.trail_laws.proofs.Covering.{covers}
use Rattle.trail_laws.proofs.ways.phases_cover.Goals as goal

pub returns : goal.returns
returns c = covers (assumption) (assumption) (assumption)
