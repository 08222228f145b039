use Rattle.std.proofs.Common.{◌-◌, drop}
use Rattle.handset.specs.Condition.{HandsetData}
use Rattle.region_plan.specs.Plan.{PlanData}
use Rattle.machine.specs.Owed.{HasCome, MayPut}
use Rattle.machine.proofs.ahead.put_plain.Given as goal

abbrev pub invariant-loop-place : goal.invariant-loop-place
invariant-loop-place l = (plan : PlanData) (old new : HandsetData)
    → MayPut plan l.sub old new l.fn.cells (drop l.made l.ahead)
    → HasCome plan l.sub old new l.fn.cells l.cells (l.place - l.made) (drop l.place l.ahead)
