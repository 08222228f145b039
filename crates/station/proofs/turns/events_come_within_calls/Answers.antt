use Rattle.station.proofs.Coming.{come_within}
use Rattle.station.proofs.turns.events_come_within_calls.Goals as goal

pub returns : goal.returns
returns c = come_within
