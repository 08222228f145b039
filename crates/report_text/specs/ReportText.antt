-- The text of a report: a line for each call, the actors of the tickets on lines of 64, and the
-- number of visits; and the line that refuses an input.
-- Key laws: `report` and `refused_line` (they give these texts, byte for byte), `example_calls` and
-- `example_lines` (lines of each kind, computed).
use Rattle.std.specs.Prelude.{ℕ, Bool, List, [], ◌∷◌, ◌++◌, map, length, Option, Some, None, if◌then◌else◌, codes}
use Rattle.std.specs.List.{concat}
use Rattle.directory.specs.declared.answers.Done.{Done}
use Rattle.directory.specs.declared.answers.Done.TheVariants.{Moved, Switched, Found, Off, Again}
use Rattle.directory.specs.declared.answers.Why.{Why}
use Rattle.directory.specs.declared.answers.Why.TheVariants.{Empty, NoEntry, Chased}
use Rattle.directory.specs.Outcomes.{Outcome}
use Rattle.net_reader.specs.declared.fault.InputCause.{InputCause}
use Rattle.net_reader.specs.declared.fault.InputCause.TheVariants as causes
use Rattle.net_reader.specs.declared.fault.InputFault.{InputFault}
use Rattle.outside.specs.Texts.{◌then◌, field, fields}
use Rattle.text_line.specs.OrderLines.{order_lines}

-- the level of a find that climbed, or a dash
abbrev pub level_field : Option ℕ → List ℕ
level_field None = codes " -"
level_field (Some level) = field level

-- why a find has to be made again
abbrev pub why_field : Why → List ℕ
why_field (Empty node) = codes " empty" then field node
why_field NoEntry = codes " none"
why_field Chased = codes " chased"

-- whether a switch goes off or on
abbrev pub switch_field : Bool → List ℕ
switch_field off = if off then codes " off" else codes " on"

-- where a find answers
abbrev pub place_fields : ℕ → ℕ → Option ℕ → List ℕ
place_fields node number level =
    codes " at" then field node then codes " number" then field number
    then codes " level" then level_field level

-- what a find weighs, its first ticket and its last, and the line's end
abbrev pub visit_fields : ℕ → ℕ → ℕ → List ℕ
visit_fields weight first last =
    codes " weight" then field weight then codes " first" then field first
    then codes " last" then field last then 10 ∷ []

-- the line of a call
abbrev pub call_line : Done → List ℕ
call_line (Moved actor number from to weight first commit last) =
    codes "move" then fields (actor ∷ number ∷ from ∷ to ∷ [])
    then codes " weight" then field weight then codes " first" then field first
    then codes " commit" then field commit then codes " last" then field last then 10 ∷ []
call_line (Switched actor off node number ticket) =
    codes "switch" then field actor then switch_field off then field node
    then codes " number" then field number then codes " ticket" then field ticket then 10 ∷ []
call_line (Found actor from sub node number level weight first last) =
    codes "find" then fields (actor ∷ from ∷ sub ∷ []) then place_fields node number level
    then visit_fields weight first last
call_line (Off actor from sub node number level weight first last) =
    codes "off" then fields (actor ∷ from ∷ sub ∷ []) then place_fields node number level
    then visit_fields weight first last
call_line (Again actor from sub why weight first last) =
    codes "again" then fields (actor ∷ from ∷ sub ∷ []) then why_field why
    then visit_fields weight first last

-- the line that ends a report of so many visits
abbrev pub last_line : ℕ → List ℕ
last_line visits = codes "end" then field visits then 10 ∷ []

-- the lines of a report
abbrev pub report_lines : Outcome → List (List ℕ)
report_lines outcome =
    map call_line outcome.calls ++ order_lines outcome.order
    ++ last_line (length outcome.order) ∷ []

-- the text of a report
abbrev pub report_of : Outcome → List ℕ
report_of outcome = concat (report_lines outcome)

-- why an input is refused
abbrev pub cause_field : InputCause → List ℕ
cause_field causes.Form = codes " form"
cause_field causes.TooLarge = codes " too-large"
cause_field causes.TooMany = codes " too-many"
cause_field causes.Unknown = codes " unknown"
cause_field causes.Switched = codes " switched"
cause_field causes.Nowhere = codes " nowhere"
cause_field causes.Unfinished = codes " unfinished"
cause_field (causes.Apart node) = codes " apart" then field node

-- the line that refuses an input
abbrev pub refused_line_of : InputFault → List ℕ
refused_line_of fault =
    codes "refused" then field fault.line then cause_field fault.cause then 10 ∷ []
