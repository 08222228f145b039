use Rattle.std.proofs.Common.{arith}
use Rattle.station.proofs.Fresh.{matched_lies}
use Rattle.station.proofs.tracker.Tracker.set_up.Goals as goal

pub invariant_of-tracker : goal.invariant_of-tracker
invariant_of-tracker c = grind (arith, matched_lies)
