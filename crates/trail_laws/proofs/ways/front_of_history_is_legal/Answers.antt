use Rattle.trail_laws.proofs.Passing.{front-legal}
use Rattle.trail_laws.proofs.ways.front_of_history_is_legal.Goals as goal

pub returns : goal.returns
returns c = front-legal c.front_is_legal.ensures
