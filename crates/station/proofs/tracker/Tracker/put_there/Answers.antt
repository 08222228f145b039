use Rattle.std.proofs.Common.{rules}
use Rattle.station.proofs.tracker.Tracker.put_there.Goals as goal

pub returns-else-moves_here-clause-done : goal.returns-else-moves_here-clause-done
returns-else-moves_here-clause-done c = search rules

pub returns-then-moves_here-clause-done : goal.returns-then-moves_here-clause-done
returns-then-moves_here-clause-done c = search rules
