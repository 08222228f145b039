use Rattle.std.proofs.Common.{◌≡◌, drop}
use Rattle.report_check.specs.Parts.{first_from}
use Rattle.report_check.proofs.told.first_from.Given as goal

abbrev pub invariant-tickets : goal.invariant-tickets
invariant-tickets l = first_from l.actor l.ticket (drop l.ticket l.order)
    ≡ first_from l.actor l.start (drop l.start l.order)
