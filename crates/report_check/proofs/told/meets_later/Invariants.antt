use Rattle.std.proofs.Common.{◌≡◌, suc, drop, map}
use Rattle.report_check.specs.ReadLines.{done_of}
use Rattle.report_check.specs.Parts.{meets_from}
use Rattle.report_check.proofs.told.meets_later.Given as goal

abbrev pub invariant-tickets : goal.invariant-tickets
invariant-tickets l = meets_from (map done_of l.lines.calls.now) l.sub l.last l.ticket (drop l.ticket l.order)
    ≡ meets_from (map done_of l.lines.calls.now) l.sub l.last (suc l.first) (drop (suc l.first) l.order)
