use Rattle.trail_laws.proofs.Short.{levels-near, stands-inside}
use Rattle.trail_laws.proofs.ways.levels_stay_near.Goals as goal

pub returns : goal.returns
returns c = record { near = levels-near assumption; inside = stands-inside assumption }
