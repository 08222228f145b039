use Rattle.std.proofs.Common.{rules}
use Rattle.station.proofs.tracker.Tracker.lock_place.Goals as goal

pub returns-clause-place : goal.returns-clause-place
returns-clause-place c = search rules
