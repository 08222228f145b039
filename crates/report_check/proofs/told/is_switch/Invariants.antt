use Rattle.std.proofs.Common.{◌≡◌, drop, map}
use Rattle.std.specs.List.{list_any}
use Rattle.report_check.specs.ReadLines.{done_of}
use Rattle.report_check.specs.Parts.{is_switch_at}
use Rattle.report_check.proofs.told.is_switch.Given as goal

abbrev pub invariant-lines : goal.invariant-lines
invariant-lines l = list_any (is_switch_at l.ticket) (map done_of (drop l.line-index l.calls))
    ≡ list_any (is_switch_at l.ticket) (map done_of l.calls)
