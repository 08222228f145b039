use Rattle.trail_laws.proofs.Quiet.{quiet-stays}
use Rattle.trail_laws.proofs.ways.quiet_finds_stay_within.Goals as goal

pub returns : goal.returns
returns c = quiet-stays assumption
