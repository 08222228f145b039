-- What a checker says of a report: that it is sound, or the first flaw and its line. The first line
-- that can't be read gives Form; else the first line of a call that breaks one of the parts gives
-- the first such part; tickets that no call holds give Tickets at the last line of their actor, or
-- behind the lines of calls, where their actor has no call.
-- Key law: `check` (its verdict is this one).
use Rattle.std.specs.Prelude.{ℕ, suc, ◌-◌, ◌^◌, ◌==◌, ◌&&◌, Bool, true, not, nat_lt, if◌then◌else◌, List, [], ◌∷◌, drop, length, slice_index_or, Option, Some, None, Result, Ok, Err, codes}
use Rattle.std.specs.List.{list_all}
use Rattle.directory.specs.declared.answers.Done.{Done}
use Rattle.directory.specs.Outcomes.{Outcome}
use Rattle.net_reader.specs.declared.said.Call.{Call}
use Rattle.net_reader.specs.Input.{Contents}
use Rattle.region_plan.specs.Plan.{PlanData, nodes_of, levels_of}
use Rattle.report_check.specs.declared.calls.Bounds.{Bounds}
use Rattle.report_check.specs.declared.verdict.Flaw.{Flaw}
use Rattle.report_check.specs.declared.verdict.Flaw.TheVariants as flaws
use Rattle.report_check.specs.declared.verdict.Verdict.{Verdict}
use Rattle.report_check.specs.declared.verdict.Verdict.TheVariants.{Sound, Unsound}
use Rattle.directory.specs.CallLines.{actor_of}
use Rattle.report_check.specs.Parts.{again_holds, end_of, none_left, place_holds, tickets_hold, weight_holds}
use Rattle.report_check.specs.Reading.{report_in}
use Rattle.report_check.specs.Slots.{slots_for}

-- how a flaw is written
abbrev pub name_of : Flaw → List ℕ
name_of flaws.Form = codes "form"
name_of flaws.Tickets = codes "tickets"
name_of flaws.Place = codes "place"
name_of flaws.Again = codes "again"
name_of flaws.Weight = codes "weight"

-- the number of the line behind so many; it stands still at the end of 32 bits
abbrev pub line_behind : ℕ → ℕ
line_behind lines = if nat_lt lines (2 ^ 32 - 1) then suc lines else 2 ^ 32 - 1

-- how many bytes a report may have
abbrev pub most_bytes : ℕ
most_bytes = 67108864

-- whether a call is its actor's last: the lines of an actor stand together
abbrev pub is_last : Done → List Done → Bool
is_last call [] = true
is_last call (next ∷ later) = not (actor_of next == actor_of call)

-- the same of the first of these calls
abbrev pub is_first_last : List Done → Bool
is_first_last [] = true
is_first_last (call ∷ later) = is_last call later

-- the same of a call by its place
abbrev pub is_last_at : List Done → ℕ → Bool
is_last_at calls index = is_first_last (drop index calls)

-- the first part that a line breaks; the end of the actor's call before is handed in
abbrev pub flaw_of : PlanData → List ℕ → List Done → List ℕ → Option ℕ → Bool → Done
    → Option Flaw
flaw_of plan homes calls order before last call =
    if tickets_hold order before call && (if last then none_left order call else true)
    then (if place_holds homes calls call
    then (if again_holds calls order call
    then (if weight_holds plan homes calls order call then None else Some flaws.Weight)
    else Some flaws.Again)
    else Some flaws.Place)
    else Some flaws.Tickets

-- a flaw of the line behind so many, or what follows
abbrev pub or_flaw : ℕ → Option Flaw → Verdict → Verdict
or_flaw lines (Some cause) verdict = Unsound (line_behind lines) cause
or_flaw lines None verdict = verdict

-- the end of the call before the next one of its actor
abbrev pub end_before : Done → List Done → Option ℕ
end_before call later = if is_last call later then None else Some (end_of call)

-- whether an actor has a call
abbrev pub has_call : List (List Call) → ℕ → Bool
has_call scripts actor = nat_lt 0 (length (slice_index_or scripts actor []))

-- behind the lines of the calls: each ticket is of an actor that has a call
abbrev pub strangers : List (List Call) → List ℕ → ℕ → Verdict
strangers scripts order lines =
    if list_all (has_call scripts) order then Sound
    else Unsound (line_behind lines) flaws.Tickets

-- the verdict on the later calls, behind so many lines
unfoldable pub verdict_from : PlanData → List ℕ → List (List Call) → Outcome → ℕ → Option ℕ
    → List Done → Verdict
verdict_from plan homes scripts outcome lines before [] = strangers scripts outcome.order lines
verdict_from plan homes scripts outcome lines before (call ∷ later) =
    or_flaw lines
    (flaw_of plan homes outcome.calls outcome.order before (is_last call later) call)
    (verdict_from plan homes scripts outcome (suc lines) (end_before call later) later)

-- the verdict on a report that was read
abbrev pub judged : PlanData → List ℕ → List (List Call) → Outcome → Verdict
judged plan homes scripts outcome =
    verdict_from plan homes scripts outcome 0 None outcome.calls

-- the verdict on a report that was read, or that can't be read behind so many lines
abbrev pub verdict_on : PlanData → Contents → Result Outcome ℕ → Verdict
verdict_on plan contents (Ok outcome) = judged plan contents.homes contents.scripts outcome
verdict_on plan contents (Err lines) = Unsound (line_behind lines) flaws.Form

-- how many nodes and levels a plan has
abbrev pub bounds_of : PlanData → Bounds
bounds_of plan = record { nodes = nodes_of plan; levels = levels_of plan }

-- the verdict on a report of an input
abbrev pub verdict_of : PlanData → Contents → List ℕ → Verdict
verdict_of plan contents report =
    verdict_on plan contents (report_in (bounds_of plan) (slots_for contents) report)
