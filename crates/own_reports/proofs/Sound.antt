-- What the directory reports is read as its outcome, in which no part is broken.
use Rattle.std.proofs.Common.{◌≡◌, ℕ, suc, Bool, true, cond, List, [], ◌∷◌, Option, None, refl, ap, ◌∙◌, arith}
use Rattle.std.specs.Prelude.{All}
use Rattle.std.specs.List.{list_all}
use Rattle.std.proofs.lemmas.List.Elements.{All-head, All-tail}
use Rattle.directory.specs.Outcomes.{Outcome}
use Rattle.directory.specs.declared.answers.Done.{Done}
use Rattle.net_reader.specs.declared.said.Call.{Call}
use Rattle.region_plan.specs.Matched.{PlansBoundFinds, PlansHaveFewReaders}
use Rattle.region_plan.specs.Meanings.{PlansMean}
use Rattle.region_plan.specs.Plan.{PlanData}
use Rattle.report_check.specs.declared.verdict.Flaw.{Flaw}
use Rattle.report_check.specs.declared.verdict.Verdict.TheVariants.{Sound}
use Rattle.report_check.specs.Forms.{ReportsAreRead}
use Rattle.report_check.specs.Parts.{again_holds, place_holds, weight_holds}
use Rattle.report_check.specs.Slots.{slots_for}
use Rattle.report_check.specs.Verdicts.{bounds_of, end_before, has_call, or_flaw, verdict_from, verdict_on}
use Rattle.stretch_laws.specs.Plans.{PlansTrack}
use Rattle.own_reports.specs.Reports.{HaveTickets, KeepsParts, OutcomesHaveForm, OwnReportsAreSound, PlacesAreTold, TicketsAreTold, outcome_under}
use Rattle.own_reports.proofs.Inputs.{setting_in}
use Rattle.own_reports.proofs.Sizes.{IsSmall, small-in}
use Rattle.report_check.specs.Inputs.{plan_for}

-- a line that keeps all parts has no flaw
no-flaw : (a b c d : Bool) (w x y z : Option Flaw) → a ≡ true → b ≡ true → c ≡ true → d ≡ true
    → cond a (cond b (cond c (cond d None w) x) y) z ≡ None
no-flaw a b c d w x y z p q r s = rw (p, q, r, s) refl

-- where no line has a flaw, and no ticket is a stranger's, the verdict is so
sound-from : (plan : PlanData) (homes : List ℕ) (scripts : List (List Call)) (outcome : Outcome) (lines : ℕ)
    (before : Option ℕ) (later : List Done) → HaveTickets outcome.order before later
    → All (KeepsParts plan homes outcome.calls outcome.order) later
    → list_all (has_call scripts) outcome.order ≡ true
    → verdict_from plan homes scripts outcome lines before later ≡ Sound
unfolding HaveTickets verdict_from
sound-from plan homes scripts outcome lines before [] held kept known = rw known refl
sound-from plan homes scripts outcome lines before (call ∷ later) held kept known =
    let parts = All-head (KeepsParts plan homes outcome.calls outcome.order) call later kept in
    ap (λ flaw. or_flaw lines flaw (verdict_from plan homes scripts outcome (suc lines) (end_before call later) later))
    (no-flaw _ (place_holds homes outcome.calls call) (again_holds outcome.calls outcome.order call)
    (weight_holds plan homes outcome.calls outcome.order call) _ _ _ _ held.0 parts.0 parts.1 parts.2)
    ∙ sound-from plan homes scripts outcome (suc lines) (end_before call later) later held.1
    (All-tail (KeepsParts plan homes outcome.calls outcome.order) call later kept) known

pub own-sound : ReportsAreRead → OutcomesHaveForm → TicketsAreTold → PlacesAreTold → PlansMean → PlansBoundFinds
    → PlansHaveFewReaders → PlansTrack → OwnReportsAreSound
own-sound read form tickets places means bounds sparse track contents order valid =
    let plan : PlanData = plan_for contents in
    let outcome : Outcome = outcome_under contents order in
    let small : IsSmall (setting_in contents) = small-in means bounds sparse track contents valid in
    let held = tickets contents order valid in
    ap (verdict_on plan contents)
    (read (bounds_of plan) (slots_for contents) outcome (omega (arith, small.nodes)) (omega (arith, small.top))
    (form contents order valid))
    ∙ sound-from plan contents.homes contents.scripts outcome 0 None outcome.calls held.0
    (places contents order valid) held.1
