use Rattle.std.proofs.Common.{◌≡◌, ◌≤◌, drop, map, fold}
use Rattle.report_check.specs.ReadLines.{done_of}
use Rattle.report_check.specs.Parts.{at_start, tell}
use Rattle.report_check.proofs.told.told_before.Given as goal

abbrev pub invariant-lines : goal.invariant-lines
invariant-lines l = record {
  few : l.told.number ≤ l.line-index;
  same : fold (tell l.sub l.ticket) l.told (map done_of (drop l.line-index l.calls))
      ≡ fold (tell l.sub l.ticket) (at_start l.start) (map done_of l.calls);
}
