use Rattle.trail_laws.proofs.Following.{chases-rise}
use Rattle.trail_laws.proofs.answers.chases_rise.Goals as goal

pub returns : goal.returns
returns c = chases-rise assumption
