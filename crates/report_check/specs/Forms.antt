-- Which outcomes have the form of reports: their calls are those of an input's slots, in order, and
-- their numbers are within what a report may write. A report is read just where it is the text of
-- such an outcome. Key laws: `reports_are_read` (`ReportsAreRead`: each such text is read as its
-- outcome; `ReadReportsAreText`: and no other text is read).
use Rattle.std.specs.Prelude.{◌≡◌, ℕ, ◌<◌, ◌≤◌, ◌^◌, All, List, map, length, Option, Some, None, Ok}
use Rattle.directory.specs.declared.answers.Done.{Done}
use Rattle.directory.specs.declared.answers.Done.TheVariants.{Moved, Switched, Found, Off, Again}
use Rattle.directory.specs.declared.answers.Why.{Why}
use Rattle.directory.specs.declared.answers.Why.TheVariants.{Empty, NoEntry, Chased}
use Rattle.directory.specs.Outcomes.{Outcome}
use Rattle.report_text.specs.ReportText.{report_of}
use Rattle.report_check.specs.declared.calls.Bounds.{Bounds}
use Rattle.report_check.specs.declared.slots.Slot.{Slot}
use Rattle.report_check.specs.declared.slots.Slot.TheVariants.{Move, Switch, Find}
use Rattle.report_check.specs.Reading.{most, report_in}

-- the slot that a call has
abbrev pub slot_told : Done → Slot
slot_told (Moved actor number from to weight first commit last) = Move actor number from to
slot_told (Switched actor off node number ticket) = Switch actor off node number
slot_told (Found actor from sub node number level weight first last) = Find actor from sub
slot_told (Off actor from sub node number level weight first last) = Find actor from sub
slot_told (Again actor from sub why weight first last) = Find actor from sub

-- a level, if there is one, is one of so many
abbrev pub IsLevelBelow : ℕ → Option ℕ → Type 0
IsLevelBelow levels None = Unit {0}
IsLevelBelow levels (Some level) = level < levels

-- the node that had no mark, if it is told, is one of so many
abbrev pub IsWhyBelow : ℕ → Why → Type 0
IsWhyBelow nodes (Empty node) = node < nodes
IsWhyBelow nodes NoEntry = Unit {0}
IsWhyBelow nodes Chased = Unit {0}

-- where a find answers is one of so many nodes, and its level one of so many
abbrev pub IsPlaceBelow : Bounds → ℕ → ℕ → Option ℕ → Type 0
IsPlaceBelow bounds node number level =
    (node < bounds.nodes) × (number < most) × IsLevelBelow bounds.levels level

-- what a find weighs and its tickets can be written
abbrev pub AreVisitsBelow : ℕ → ℕ → ℕ → Type 0
AreVisitsBelow weight first last = (weight < most) × (first < most) × (last < most)

-- the numbers of a call that its slot doesn't say can be written
abbrev pub IsCallBelow : Bounds → Done → Type 0
IsCallBelow bounds (Moved actor number from to weight first commit last) =
    (weight < most) × (first < most) × (commit < most) × (last < most)
IsCallBelow bounds (Switched actor off node number ticket) = ticket < most
IsCallBelow bounds (Found actor from sub node number level weight first last) =
    IsPlaceBelow bounds node number level × AreVisitsBelow weight first last
IsCallBelow bounds (Off actor from sub node number level weight first last) =
    IsPlaceBelow bounds node number level × AreVisitsBelow weight first last
IsCallBelow bounds (Again actor from sub why weight first last) =
    IsWhyBelow bounds.nodes why × AreVisitsBelow weight first last

-- an outcome has the form of a report of these slots
pub record HasForm (bounds : Bounds) (slots : List Slot) (outcome : Outcome) : Type 0 where
  pub slots_are : map slot_told outcome.calls ≡ slots
  pub calls : All (IsCallBelow bounds) outcome.calls
  pub order : All (λ actor. actor < most) outcome.order
  pub visits : length outcome.order < most

-- the text of an outcome of this form is read as the outcome (`reports_are_read`)
abbrev pub ReportsAreRead : Type 0
ReportsAreRead =
    (bounds : Bounds) (slots : List Slot) (outcome : Outcome) → bounds.nodes ≤ 2 ^ 63
    → bounds.levels ≤ 2 ^ 63 → HasForm bounds slots outcome
    → report_in bounds slots (report_of outcome) ≡ Ok outcome

-- a text that is read as an outcome is its text, and the outcome has this form (`reports_are_read`)
abbrev pub ReadReportsAreText : Type 0
ReadReportsAreText =
    (bounds : Bounds) (slots : List Slot) (text : List ℕ) (outcome : Outcome)
    → bounds.nodes ≤ 2 ^ 63 → bounds.levels ≤ 2 ^ 63 → report_in bounds slots text ≡ Ok outcome
    → HasForm bounds slots outcome × (text ≡ report_of outcome)
