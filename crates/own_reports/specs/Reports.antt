-- What the directory itself reports of an input is sound: for every valid input and every order of
-- visits, whether the order is the input's own or one that threads made, the checker of reports
-- finds no flaw in the report of what becomes of the input's calls.
-- Key laws: `own_reports_are_sound` (`OwnReportsAreSound`), by `outcomes_have_form`,
-- `tickets_are_told` and `places_are_told` (the report is read, each call has its tickets, and none
-- is left over; and each line keeps the other parts).
use Rattle.std.specs.Prelude.{◌≡◌, ℕ, ◌&&◌, All, true, if◌then◌else◌, List, [], ◌∷◌, Option, None}
use Rattle.std.specs.List.{list_all}
use Rattle.directory.specs.declared.answers.Done.{Done}
use Rattle.directory.specs.Outcomes.{Outcome, outcome_of}
use Rattle.net_reader.specs.Input.{Contents}
use Rattle.net_reader.specs.Valid.{IsValid}
use Rattle.region_plan.specs.Plan.{PlanData}
use Rattle.region_plan.specs.Settings.{setting_of}
use Rattle.scripts.specs.Scripts.{scripts_of}
use Rattle.report_text.specs.ReportText.{report_of}
use Rattle.report_check.specs.declared.verdict.Verdict.TheVariants.{Sound}
use Rattle.report_check.specs.Forms.{HasForm}
use Rattle.report_check.specs.Inputs.{plan_for}
use Rattle.report_check.specs.Parts.{again_holds, none_left, place_holds, tickets_hold, weight_holds}
use Rattle.report_check.specs.Slots.{slots_for}
use Rattle.report_check.specs.Verdicts.{bounds_of, end_before, has_call, is_last, verdict_of}

-- what becomes of an input's calls under an order
abbrev pub outcome_under : Contents → List ℕ → Outcome
outcome_under contents order =
    outcome_of (setting_of (plan_for contents) contents.homes) (scripts_of contents) order

-- the report has the form that the checker reads (`outcomes_have_form`)
abbrev pub OutcomesHaveForm : Type 0
OutcomesHaveForm =
    (contents : Contents) (order : List ℕ) → IsValid contents
    → HasForm (bounds_of (plan_for contents)) (slots_for contents) (outcome_under contents order)

-- each of these calls has its tickets, the end of the call before the first being this one, and
-- behind an actor's last call it has no ticket
unfoldable pub HaveTickets : List ℕ → Option ℕ → List Done → Type 0
HaveTickets order before [] = Unit {0}
HaveTickets order before (call ∷ later) =
    ((tickets_hold order before call
    && (if is_last call later then none_left order call else true)) ≡ true)
    × HaveTickets order (end_before call later) later

-- so it is of what the directory reports, and no ticket is of an actor without calls
-- (`tickets_are_told`)
abbrev pub TicketsAreTold : Type 0
TicketsAreTold =
    (contents : Contents) (order : List ℕ) → IsValid contents
    → HaveTickets (outcome_under contents order).order None (outcome_under contents order).calls
    × (list_all (has_call contents.scripts) (outcome_under contents order).order ≡ true)

-- a call keeps the other parts: its place, what is to be made again, and its weight
abbrev pub KeepsParts : PlanData → List ℕ → List Done → List ℕ → Done → Type 0
KeepsParts plan homes calls order call =
    (place_holds homes calls call ≡ true) × (again_holds calls order call ≡ true)
    × (weight_holds plan homes calls order call ≡ true)

-- so do the calls of what the directory reports (`places_are_told`)
abbrev pub PlacesAreTold : Type 0
PlacesAreTold =
    (contents : Contents) (order : List ℕ) → IsValid contents
    → All (KeepsParts (plan_for contents) contents.homes (outcome_under contents order).calls
    (outcome_under contents order).order) (outcome_under contents order).calls

-- what the directory reports is sound (`own_reports_are_sound`)
abbrev pub OwnReportsAreSound : Type 0
OwnReportsAreSound =
    (contents : Contents) (order : List ℕ) → IsValid contents
    → verdict_of (plan_for contents) contents (report_of (outcome_under contents order)) ≡ Sound
