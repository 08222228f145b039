use Rattle.station.proofs.Timing.{lost_read}
use Rattle.station.proofs.turns.lost_turns_are_read.Goals as goal

pub returns : goal.returns
returns c = lost_read
