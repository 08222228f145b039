use Rattle.std.proofs.Common.{◌≡◌, ◌-◌}
use Rattle.report_check.specs.Reading.{numbers_in}
use Rattle.report_check.proofs.cursor.Cursor.numbers.Given as goal

abbrev pub invariant-numbers : goal.invariant-numbers
invariant-numbers l = numbers_in l.room l.fn.order.items l.fn.self.rest.now
    ≡ numbers_in (l.room - l._number) l.order.items l.self.rest.now
