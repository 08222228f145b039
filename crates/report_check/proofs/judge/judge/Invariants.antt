use Rattle.std.proofs.Common.{◌≡◌, drop, map}
use Rattle.region_plan.specs.Plan.{PlanData}
use Rattle.report_check.specs.Grounds.{IsGround}
use Rattle.report_check.specs.ReadLines.{done_of}
use Rattle.report_check.specs.Verdicts.{judged, verdict_from}
use Rattle.report_check.proofs.judge.judge.Given as goal

abbrev pub invariant-lines : goal.invariant-lines
invariant-lines l = (plan : PlanData) → IsGround plan l.ground
    → verdict_from plan l.ground.homes.now (map (λ script. script.items) l.scripts)
    (record { calls = map done_of l.lines.calls.now; order = l.order }) l.index l.before
    (drop l.index (map done_of l.lines.calls.now))
    ≡ judged plan l.ground.homes.now (map (λ script. script.items) l.scripts)
    (record { calls = map done_of l.lines.calls.now; order = l.order })
