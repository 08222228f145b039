use Rattle.trail_laws.proofs.Short.{passages-open}
use Rattle.trail_laws.proofs.ways.passage_is_open.Goals as goal

pub returns : goal.returns
returns c = passages-open assumption
