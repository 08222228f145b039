use Rattle.std.proofs.Common.{arith}
use Rattle.station.proofs.Forking.{notes}
use Rattle.station.proofs.tracker.Tracker.note.Goals as goal

pub split_seat-seat-requires : goal.split_seat-seat-requires
split_seat-seat-requires c = grind (arith, notes)
