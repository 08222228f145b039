use Rattle.station.proofs.Timing.{come_now}
use Rattle.station.proofs.turns.events_come_now.Goals as goal

pub returns : goal.returns
returns c = come_now
