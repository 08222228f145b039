use Rattle.std.proofs.Common.{arith}
use Rattle.station.proofs.Putting.{census-short}
use Rattle.station.proofs.tracker.Tracker.count_here.Goals as goal

pub overflow_cast-result : goal.overflow_cast-result
overflow_cast-result c = grind (arith, c.read_tally.ensures.tally c.requires.clear, census-short)
