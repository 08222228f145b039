use Rattle.std.proofs.Common.{◌≡◌, ◌-◌, [], length}
use Rattle.report_check.specs.Reading.{orders_in}
use Rattle.report_check.proofs.cursor.Cursor.order.Given as goal

abbrev pub invariant-lines : goal.invariant-lines
invariant-lines l = orders_in (length l.fn.self.rest.now) [] l.fn.self.rest.now
    ≡ orders_in (length l.fn.self.rest.now - l._line) l.order.items l.self.rest.now
