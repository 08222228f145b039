-- The call that comes next in a subscriber's script: it is a step, which may begin.
use Rattle.std.proofs.Common.{◌≡◌, ℕ, suc, ◌<◌, List, [], ◌∷◌, ◌++◌, length, map, take, drop, get_or, refl, sym, ap, ◌∙◌, arith}
use Rattle.std.specs.Prelude.{Some, slice_get, unwrap_or}
use Rattle.std.proofs.lemmas.List.{append_assoc, get_or-map, length-map, take-append-drop}
use Rattle.std.proofs.lemmas.Option.{unwrap_or-slice_get}
use Rattle.directory.specs.Amid.{course_of}
use Rattle.directory.specs.Settings.{Setting}
use Rattle.directory.specs.Courses.{Course, MayStep, MaySteps, Step, after_step, after_steps}
use Rattle.directory.specs.Legal.{IsScript}
use Rattle.directory.specs.Orders.{AreValid, steps_of}
use Rattle.directory.specs.StepLaws.{slice_get-within, take-more}
use Rattle.distances.specs.Table.{DistanceTable}
use Rattle.net_reader.specs.Input.{Contents}
use Rattle.net_reader.specs.declared.said.Call.{Call}
use Rattle.net_reader.specs.declared.said.Call.TheVariants as calls
use Rattle.region_plan.specs.Plan.{PlanData}
use Rattle.region_plan.specs.Settings.{setting_of}
use Rattle.handset.specs.Condition.{HandsetData}
use Rattle.handset.specs.StageLaws.{IsRestAfter}
use Rattle.scripts.specs.Laws.{ScriptsAreValid}
use Rattle.scripts.specs.Scripts.{scripts_of, step_of}
use Rattle.scripts.specs.ScriptLaws.{IsStep, course-steps, steps-are}
use Rattle.move_cost.specs.Counting.{MayBegin, first_steps}
use Rattle.move_cost.specs.Plans.{GoTogether}

-- a step of a script may come where it does
may-at : (setting : Setting) (course : Course) (before : List Step) (step : Step) (later : List Step)
    → MaySteps setting course (before ++ step ∷ later) → MayStep setting (after_steps setting course before) step
unfolding MaySteps
may-at setting course [] step later may = may.0
may-at setting course (s ∷ before) step later may = may-at setting (after_step setting course s) before step later may.1

pub may-begin : (plan : PlanData) (starts : List ℕ) {sub : ℕ} {handset : HandsetData} {steps : List Step} {made : ℕ}
    (call : Call) → IsRestAfter (setting_of plan starts) sub handset steps made → IsStep call
    → MayStep (setting_of plan starts) (course_of (setting_of plan starts) sub steps) (step_of call)
    → MayBegin plan handset call
may-begin plan starts (calls.Move to) at its may =
    (may.inside, λ same. may.moving (same ∙ at.place), at.is_off ∙ may.is_on, omega (arith, may.few, at.number))
may-begin plan starts (calls.Find from found) at its may = absurd its
may-begin plan starts calls.Off at its may = at.is_off ∙ may
may-begin plan starts calls.On at its may = at.is_off ∙ may

-- what is known of the call at a place of a subscriber's script
pub record IsNextCall (input : Contents) (plan : PlanData) (sub place : ℕ) (call : Call) : Type 0 where
  pub step : IsStep call
  pub more : first_steps input sub (suc place) ≡ first_steps input sub place ++ step_of call ∷ []
  pub may : MayStep (setting_of plan input.homes)
      (course_of (setting_of plan input.homes) sub (first_steps input sub place)) (step_of call)

pub next-call : ScriptsAreValid → {input : Contents} {plan : PlanData} {distances : DistanceTable} (sub place : ℕ)
    {call : Call} → GoTogether input plan distances → sub < length input.homes
    → place < length (steps_of (scripts_of input) sub) → call ≡ get_or (get_or input.scripts sub []) place call
    → IsNextCall input plan sub place call
next-call scripts {input} {plan} sub place {call} together low short same =
    let setting : Setting = setting_of plan input.homes in
    let script : List Call = get_or input.scripts sub [] in
    let steps : List Step = steps_of (scripts_of input) sub in
    let are : steps ≡ map step_of script = steps-are input sub together.valid low in
    let inside : place < length script =
    omega (arith, short, ap length are, length-map script step_of) in
    let found = slice_get-within (map step_of script) place
    (omega (arith, inside, length-map script step_of)) in
    let is : found.0 ≡ step_of call =
    ap (λ o. unwrap_or o (step_of call)) (sym found.1)
    ∙ (grind (arith, unwrap_or-slice_get, get_or-map)) in
    let here : slice_get steps place ≡ Some (step_of call) =
    ap (λ ss. slice_get ss place) are ∙ (found.1 ∙ ap Some is) in
    let more : take (suc place) steps ≡ take place steps ++ step_of call ∷ [] =
    take-more steps place (step_of call) here in
    let whole : steps ≡ take place steps ++ step_of call ∷ drop (suc place) steps =
    sym (take-append-drop (suc place) steps)
    ∙ (grind (arith, more, append_assoc)) in
    let valid : AreValid setting (scripts_of input) =
    scripts input setting together.valid (record { nodes = together.nodes; starts = refl }) in
    let its : IsScript setting sub steps = valid.steps sub low in
    record {
      step = grind (arith, IsStep, course-steps);
      more = more;
      may = grind (arith, may-at);
    }
