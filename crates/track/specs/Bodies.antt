-- The text of what answers an input, and how the writing of it ends. Key law: `command`, by its
-- clause `told` (it writes this text, where the status is 0 or 1).
use Rattle.std.specs.Prelude.{◌≡◌, ◌⊎◌, ℕ, List, Option, Result, Ok, Err}
use Rattle.std.specs.declared.alloc.AllocError.{AllocError}
use Rattle.outside.specs.Bytes.{append_known}
use Rattle.directory.specs.Outcomes.{result_of}
use Rattle.json_form.specs.Reports.{report_json_of}
use Rattle.report_text.specs.PlanText.{plan_text_of}
use Rattle.report_text.specs.ReportText.{refused_line_of, report_of}
use Rattle.track.specs.Transfer.{StopsWriting, write_status}
use Rattle.track.specs.declared.answer.Answer.{Answer}
use Rattle.track.specs.declared.answer.Body.{Body}
use Rattle.track.specs.declared.answer.Body.TheVariants as bodies
use Rattle.track.specs.declared.status.Status.{Status}
use Rattle.track.specs.declared.status.Status.TheVariants.{OutOfMemory}
use Rattle.track.specs.declared.stop.WriteStop.{WriteStop}

-- a plan has its text, an outcome its report or the JSON of it, a text is itself, and a fault has
-- the line that refuses
abbrev pub text_of : Body → List ℕ
text_of (bodies.Plan plan) = plan_text_of plan
text_of (bodies.Report outcome) = report_of (result_of outcome)
text_of (bodies.Json outcome) = report_json_of (result_of outcome)
text_of (bodies.Text text) = text.items
text_of (bodies.Refusal fault) = refused_line_of fault

-- the text was written whole, and this is the status that goes with it; or writing stopped, and
-- this is the status of that
abbrev pub IsAnswered : Answer → Status → Option (List ℕ) → Option (List ℕ) → ℕ → ℕ → Type 0
IsAnswered answer status before now faults_before faults_now =
    ((status ≡ answer.status) × (now ≡ append_known before (text_of answer.body))
    × (faults_now ≡ faults_before))
    ⊎ ((stop : WriteStop) × (status ≡ write_status stop)
    × StopsWriting stop (text_of answer.body) before now faults_before faults_now)

-- so ends the writing of an answer; for want of memory there may be none
abbrev pub IsEnded : Result Answer AllocError → Status → Option (List ℕ) → Option (List ℕ) → ℕ
    → ℕ → Type 0
IsEnded (Ok answer) status before now faults_before faults_now =
    IsAnswered answer status before now faults_before faults_now
IsEnded (Err none) status before now faults_before faults_now =
    (status ≡ OutOfMemory) × (now ≡ before) × (faults_now ≡ faults_before)
