-- The JSON of a report: its calls, the actors of its tickets, and how many visits there were.
-- Key laws: `report_json` and `ReportParts` (they write this value), `example_report` (computed).
use Rattle.std.specs.Prelude.{ℕ, List, length, Option, Some, None, codes}
use Rattle.directory.specs.declared.answers.Done.{Done}
use Rattle.directory.specs.declared.answers.Done.TheVariants.{Moved, Switched, Found, Off, Again}
use Rattle.directory.specs.declared.answers.Why.{Why}
use Rattle.directory.specs.declared.answers.Why.TheVariants.{Empty, NoEntry, Chased}
use Rattle.directory.specs.Outcomes.{Outcome}
use Rattle.serde_json.specs.Data.{Data, boolean, member, no_members, null, object, string}
use Rattle.json_form.specs.Values.{line_of_value, list_by, whole, wholes}

-- a number, or null where there is none
abbrev pub whole_or_null : Option ℕ → Data
whole_or_null None = null
whole_or_null (Some n) = whole n

-- what a find answers, under its kind: the level is null where it didn't climb
abbrev pub answer_value : List ℕ → ℕ → ℕ → ℕ → ℕ → ℕ → Option ℕ → ℕ → ℕ → ℕ → Data
answer_value kind actor from sub node number level weight first last =
    object
    (member (codes "actor") (whole actor)
    (member (codes "first") (whole first)
    (member (codes "from") (whole from)
    (member (codes "kind") (string kind)
    (member (codes "last") (whole last)
    (member (codes "level") (whole_or_null level)
    (member (codes "node") (whole node)
    (member (codes "number") (whole number)
    (member (codes "sub") (whole sub)
    (member (codes "weight") (whole weight)
    no_members))))))))))

-- the node that had no mark
abbrev pub why_node : Why → Option ℕ
why_node (Empty node) = Some node
why_node NoEntry = None
why_node Chased = None

-- why a find has to be made again
abbrev pub why_word : Why → List ℕ
why_word (Empty node) = codes "empty"
why_word NoEntry = codes "none"
why_word Chased = codes "chased"

-- what became of a call
abbrev pub done_value : Done → Data
done_value (Moved actor number from to weight first commit last) =
    object
    (member (codes "actor") (whole actor)
    (member (codes "commit") (whole commit)
    (member (codes "first") (whole first)
    (member (codes "from") (whole from)
    (member (codes "kind") (string (codes "move"))
    (member (codes "last") (whole last)
    (member (codes "number") (whole number)
    (member (codes "to") (whole to)
    (member (codes "weight") (whole weight)
    no_members)))))))))
done_value (Switched actor off node number ticket) =
    object
    (member (codes "actor") (whole actor)
    (member (codes "kind") (string (codes "switch"))
    (member (codes "node") (whole node)
    (member (codes "number") (whole number)
    (member (codes "off") (boolean off)
    (member (codes "ticket") (whole ticket)
    no_members))))))
done_value (Found actor from sub node number level weight first last) =
    answer_value (codes "find") actor from sub node number level weight first last
done_value (Off actor from sub node number level weight first last) =
    answer_value (codes "off") actor from sub node number level weight first last
done_value (Again actor from sub why weight first last) =
    object
    (member (codes "actor") (whole actor)
    (member (codes "first") (whole first)
    (member (codes "from") (whole from)
    (member (codes "kind") (string (codes "again"))
    (member (codes "last") (whole last)
    (member (codes "node") (whole_or_null (why_node why))
    (member (codes "sub") (whole sub)
    (member (codes "weight") (whole weight)
    (member (codes "why") (string (why_word why))
    no_members)))))))))

-- the value of a report
abbrev pub report_value : Outcome → Data
report_value outcome =
    object
    (member (codes "calls") (list_by done_value outcome.calls)
    (member (codes "order") (wholes outcome.order)
    (member (codes "visits") (whole (length outcome.order))
    no_members)))

-- the JSON of a report
abbrev pub report_json_of : Outcome → List ℕ
report_json_of outcome = line_of_value (report_value outcome)
