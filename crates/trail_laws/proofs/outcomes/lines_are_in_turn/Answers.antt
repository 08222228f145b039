use Rattle.trail_laws.proofs.InTurn.{outcome-in-turn}
use Rattle.trail_laws.proofs.outcomes.lines_are_in_turn.Goals as goal

pub returns : goal.returns
returns c = outcome-in-turn c.lines_are_made.ensures.follow c.lines_grow.ensures.count c.tickets_tell.ensures.ascend
