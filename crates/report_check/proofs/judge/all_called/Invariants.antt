use Rattle.std.proofs.Common.{◌≡◌, drop, map}
use Rattle.std.specs.List.{list_all}
use Rattle.report_check.specs.Verdicts.{has_call}
use Rattle.report_check.proofs.judge.all_called.Given as goal

abbrev pub invariant-tickets : goal.invariant-tickets
invariant-tickets l = list_all (has_call (map (λ script. script.items) l.scripts)) (drop l.actor-index l.order)
    ≡ list_all (has_call (map (λ script. script.items) l.scripts)) l.order
