use Rattle.std.proofs.Common.{◌≡◌, drop, map, []}
use Rattle.report_check.specs.ReadLines.{done_of}
use Rattle.report_check.specs.Reading.{calls_in}
use Rattle.report_check.proofs.cursor.Cursor.calls.Given as goal

abbrev pub invariant-slots : goal.invariant-slots
invariant-slots l = calls_in l.bounds [] l.slots l.fn.self.rest.now
    ≡ calls_in l.bounds (map done_of l.calls.items) (drop l.slot-index l.slots) l.self.rest.now
