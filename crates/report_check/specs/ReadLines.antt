-- What the code keeps of a report's lines, as the directory's own calls.
-- Key law: `check` gives the verdict on them.
use Rattle.std.specs.Prelude.{◌≡◌, ℕ, List, map, Option, Some, None, Result, Ok, Err}
use Rattle.directory.specs.declared.answers.Done.{Done}
use Rattle.directory.specs.declared.answers.Done.TheVariants.{Moved, Switched, Again as AgainBy}
use Rattle.directory.specs.Outcomes.{Outcome}
use Rattle.report_check.specs.declared.calls.Line.{Line}
use Rattle.report_check.specs.declared.calls.Line.TheVariants.{Move, Switch, Answer, Again}
use Rattle.report_check.specs.declared.report.Report.{Report}
use Rattle.report_check.specs.Reading.{answer}

-- the call that a line tells of
abbrev pub done_of : Line → Done
done_of (Move actor number from to weight first commit last) =
    Moved actor number from to weight first commit last
done_of (Switch actor off node number ticket) = Switched actor off node number ticket
done_of (Answer actor from sub off place visits) = answer off actor from sub place visits
done_of (Again actor from sub why visits) =
    AgainBy actor from sub why visits.weight visits.first visits.last

-- what a report says
abbrev pub seen : Report → Outcome
seen report = record { calls = map done_of report.calls.items; order = report.order.items }

-- what the code read is what the steps read, and it stands behind it
abbrev pub AreRead : {A B : Type 0} → (A → B) → Result (B × List ℕ) ℕ → Result A ℕ → List ℕ
    → Type 0
AreRead shown found (Ok read) rest = found ≡ Ok (shown read, rest)
AreRead shown found (Err lines) rest = found ≡ Err lines

-- what the code read of a line is what the steps read, and it stands behind it
abbrev pub IsReadLine : Option (List ℕ × List ℕ) → Option (Unit {0}) → List ℕ → List ℕ → Type 0
IsReadLine found (Some done) numbers rest = found ≡ Some (numbers, rest)
IsReadLine found None numbers rest = found ≡ None

-- a report that was read, or how many of its lines can be read
abbrev pub read_of : Result Report ℕ → Result Outcome ℕ
read_of (Ok report) = Ok (seen report)
read_of (Err lines) = Err lines
