use Rattle.trail_laws.proofs.Covering.{coming-stands}
use Rattle.trail_laws.proofs.marks.coming_stands.Goals as goal

pub returns : goal.returns
returns c = coming-stands assumption
