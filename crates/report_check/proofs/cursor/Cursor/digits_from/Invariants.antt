use Rattle.std.proofs.Common.{◌≡◌, ◌<◌, length}
use Rattle.report_check.specs.Reading.{digits_from}
use Rattle.report_check.proofs.cursor.Cursor.digits_from.Given as goal

abbrev pub invariant-digits : goal.invariant-digits
invariant-digits l =
    record {
      low : l.number < l.limit;
      same : digits_from l.limit l.value l.fn.self.rest.now ≡ digits_from l.limit l.number l.rest;
    }

abbrev pub decreases-digits : goal.decreases-digits
decreases-digits l = length l.rest
