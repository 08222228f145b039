-- Laws of a handset that rests between the steps of a script, and of a machine that stays the same,
-- for the proofs of the crates above: `may-begin` (a step that may come may begin), `of_same` (what
-- is said of its setting and its scripts stays so), `same-back` (it was the same before).
use Rattle.std.proofs.Common.{ℕ, List, ◌∙◌, arith, subst, sym}
use Rattle.directory.specs.Amid.{course_of}
use Rattle.directory.specs.Courses.{MayStep, Step}
use Rattle.handset.specs.Condition.{HandsetData}
use Rattle.handset.specs.StageLaws.{IsRestAfter}
use Rattle.net_reader.specs.declared.said.Call.{Call}
use Rattle.net_reader.specs.declared.said.Call.TheVariants as calls
use Rattle.region_plan.specs.Plan.{PlanData}
use Rattle.region_plan.specs.Settings.{setting_of}
use Rattle.scripts.specs.ScriptLaws.{IsStep}
use Rattle.scripts.specs.Scripts.{step_of, scripts_of}
use Rattle.machine.specs.Subscribers.{MayBegin}
use Rattle.directory.specs.Settings.{Setting}
use Rattle.directory.specs.Orders.{Scripts}
use Rattle.machine.specs.Machines.{IsSame, setting_at, scripts_at}
use Rattle.net_reader.specs.Seen.{seen_input}
use Rattle.machine.specs.declared.machine.Machine.{Machine}

-- a step that may come may begin
pub may-begin : (plan : PlanData) (starts : List ℕ) (handset : HandsetData) (steps : List Step)
    (made : ℕ) (call : Call)
    → IsRestAfter (setting_of plan starts) handset.sub handset steps made → IsStep call
    → MayStep (setting_of plan starts) (course_of (setting_of plan starts) handset.sub steps)
    (step_of call)
    → MayBegin plan handset call
may-begin plan starts handset steps made (calls.Move to) at its may = (
  may.inside,
  λ same. may.moving (same ∙ at.place),
  at.is_off
      ∙ may.is_on,
  omega (arith, may.few, at.number),
)
may-begin plan starts handset steps made (calls.Find from sub) at its may = absurd its
may-begin plan starts handset steps made calls.Off at its may = at.is_off ∙ may
may-begin plan starts handset steps made calls.On at its may = at.is_off ∙ may

-- a machine that keeps its input and its plan keeps its setting and its scripts
pub of_same : (P : Setting → Scripts → Type 0) (old new : Machine) → IsSame old new
    → P (setting_at old) (scripts_at old) → P (setting_at new) (scripts_at new)
of_same P old new same p =
    let homes = (seen_input old.input.now).homes in
    subst (λ input. P (setting_of new.plan.now (seen_input input).homes)
    (scripts_of (seen_input input))) (sym same.0)
    (subst (λ plan. P (setting_of plan homes) (scripts_of (seen_input old.input.now)))
    (sym same.1) p)

-- a machine that stays the same was the same before
pub same-back : (old new : Machine) → IsSame old new → IsSame new old
same-back old new same =
    (sym same.0, sym same.1, sym same.2, sym same.3, sym same.4, sym same.5, sym same.6)
