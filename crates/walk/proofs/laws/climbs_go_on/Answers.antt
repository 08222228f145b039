use Rattle.walk.proofs.Climbing.{climbs-go-on}
use Rattle.walk.proofs.laws.climbs_go_on.Goals as goal

pub returns : goal.returns
returns c = climbs-go-on
