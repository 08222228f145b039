use Rattle.std.proofs.Common.{arith}
use Rattle.station.proofs.Putting.{census-short}
use Rattle.station.proofs.tracker.Tracker.move_tally.Goals as goal

pub overflow_add-moved : goal.overflow_add-moved
overflow_add-moved c =
    grind (arith, c.read_tally-tally.ensures.before c.requires.owes, c.requires.more c.if-more.true, census-short)
