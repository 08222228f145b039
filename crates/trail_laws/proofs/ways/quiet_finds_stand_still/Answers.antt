use Rattle.trail_laws.proofs.Still.{stand-still}
use Rattle.trail_laws.proofs.ways.quiet_finds_stand_still.Goals as goal

pub returns : goal.returns
returns c = stand-still (assumption) (assumption) (assumption) (assumption)
