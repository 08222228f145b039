-- What the code keeps of a report's JSON that is still to be written, piece by piece; the pieces of
-- a call; and how it sees a value that it reads.
-- Key laws: `ReportParts::advance`, by its clause `part` (each part begins the text that is left).
use Rattle.std.specs.Prelude.{◌≡◌, ℕ, Bool, true, false, List, [], ◌∷◌, ◌++◌, map, Option, Some, None, if◌then◌else◌, codes, option_map}
use Rattle.std.specs.Fmt.{decimal}
use Rattle.std.specs.List.{concat}
use Rattle.directory.specs.declared.answers.Done.{Done}
use Rattle.directory.specs.declared.answers.Done.TheVariants.{Moved, Switched, Found, Off, Again}
use Rattle.directory.specs.declared.answers.Found.{Found as Answered}
use Rattle.directory.specs.declared.answers.Found.TheVariants.{At, Off as OffAt, Again as AgainFor}
use Rattle.directory.specs.declared.answers.Why.{Why}
use Rattle.directory.specs.declared.answers.Why.TheVariants.{Empty, NoEntry, Chased}
use Rattle.net_graph.specs.declared.edge.Edge.{Edge}
use Rattle.input_text.specs.declared.listing.ActorCall.{ActorCall}
use Rattle.input_text.specs.Listing.{call_line, edge_line, home_line}
use Rattle.outside.specs.Texts.{◌then◌}
use Rattle.serde_json.specs.Data.{Data}
use Rattle.serde_json.specs.View.{items_of, view}
use Rattle.serde_json.specs.Written.{compact_text, items_text}
use Rattle.json_form.specs.declared.report.Left.{Left}
use Rattle.json_form.specs.declared.report.NextPart.{NextPart}
use Rattle.json_form.specs.declared.report.NextPart.TheVariants as parts
use Rattle.json_form.specs.declared.values.InputValues.{InputValues as ValuesKept}
use Rattle.json_form.specs.declared.rows.Kind.{Kind}
use Rattle.json_form.specs.declared.rows.Kind.TheVariants as kinds
use Rattle.json_form.specs.Reports.{done_value}
use Rattle.json_form.specs.Taking.{InputValues, call_in, edge_in, list_in, number_in}
use Rattle.json_form.specs.Values.{list_by, whole}

-- what stands before an item: a bracket before the first, else a comma
abbrev pub opening : Bool → List ℕ
opening begun = if begun then 44 ∷ [] else 91 ∷ []

-- what stands after the last item, and before it where there is none
abbrev pub closing : Bool → List ℕ
closing begun = if begun then codes "]" else codes "[]"

-- the text of a list, of which some items were written, or not even its bracket
abbrev pub list_left : {A : Type 0} → Bool → (A → Data) → List A → List ℕ
list_left true value xs = items_text true (items_of (map value xs))
list_left false value xs = compact_text (list_by value xs)

-- a key with what stands before it, and its number
abbrev pub member_text : List ℕ → ℕ → List ℕ
member_text key n = key ++ 58 ∷ decimal n

-- a key with what stands before it, and a number or null
abbrev pub null_text : List ℕ → Option ℕ → List ℕ
null_text key None = key ++ codes ":null"
null_text key (Some n) = member_text key n

-- a truth value
abbrev pub off_text : Bool → List ℕ
off_text off = if off then codes ",\"off\":true" else codes ",\"off\":false"

-- the node that had no mark
abbrev pub why_node_text : Why → List ℕ
why_node_text (Empty node) = member_text (codes ",\"node\"") node
why_node_text NoEntry = codes ",\"node\":null"
why_node_text Chased = codes ",\"node\":null"

-- why a find has to be made again
abbrev pub why_text : Why → List ℕ
why_text (Empty node) = codes ",\"why\":\"empty\"}"
why_text NoEntry = codes ",\"why\":\"none\"}"
why_text Chased = codes ",\"why\":\"chased\"}"

-- the kind of a find
abbrev pub kind_text : Answered → List ℕ
kind_text (At node number level weight) = codes ",\"kind\":\"find\""
kind_text (OffAt node number level weight) = codes ",\"kind\":\"off\""
kind_text (AgainFor why weight) = codes ",\"kind\":\"again\""

-- the pieces of a find that answers, after its actor
abbrev pub answer_pieces : List ℕ → ℕ → ℕ → ℕ → ℕ → Option ℕ → ℕ → ℕ → ℕ → List (List ℕ)
answer_pieces kind from sub node number level weight first last =
    member_text (codes ",\"first\"") first ∷ member_text (codes ",\"from\"") from ∷ kind
    ∷ member_text (codes ",\"last\"") last ∷ null_text (codes ",\"level\"") level
    ∷ member_text (codes ",\"node\"") node ∷ member_text (codes ",\"number\"") number
    ∷ member_text (codes ",\"sub\"") sub ∷ member_text (codes ",\"weight\"") weight
    ∷ codes "}" ∷ []

-- the pieces of what became of a call
abbrev pub done_pieces : Done → List (List ℕ)
done_pieces (Moved actor number from to weight first commit last) =
    member_text (codes "{\"actor\"") actor ∷ member_text (codes ",\"commit\"") commit
    ∷ member_text (codes ",\"first\"") first ∷ member_text (codes ",\"from\"") from
    ∷ codes ",\"kind\":\"move\"" ∷ member_text (codes ",\"last\"") last
    ∷ member_text (codes ",\"number\"") number ∷ member_text (codes ",\"to\"") to
    ∷ member_text (codes ",\"weight\"") weight ∷ codes "}" ∷ []
done_pieces (Switched actor off node number ticket) =
    member_text (codes "{\"actor\"") actor ∷ codes ",\"kind\":\"switch\""
    ∷ member_text (codes ",\"node\"") node ∷ member_text (codes ",\"number\"") number
    ∷ off_text off ∷ member_text (codes ",\"ticket\"") ticket ∷ codes "}" ∷ []
done_pieces (Found actor from sub node number level weight first last) =
    member_text (codes "{\"actor\"") actor
    ∷ answer_pieces (codes ",\"kind\":\"find\"") from sub node number level weight first last
done_pieces (Off actor from sub node number level weight first last) =
    member_text (codes "{\"actor\"") actor
    ∷ answer_pieces (codes ",\"kind\":\"off\"") from sub node number level weight first last
done_pieces (Again actor from sub why weight first last) =
    member_text (codes "{\"actor\"") actor ∷ member_text (codes ",\"first\"") first
    ∷ member_text (codes ",\"from\"") from ∷ codes ",\"kind\":\"again\""
    ∷ member_text (codes ",\"last\"") last ∷ why_node_text why
    ∷ member_text (codes ",\"sub\"") sub ∷ member_text (codes ",\"weight\"") weight
    ∷ why_text why ∷ []

-- what is left from the order on
abbrev pub order_left : Bool → List ℕ → ℕ → List ℕ
order_left begun order visits =
    list_left begun whole order then member_text (codes ",\"visits\"") visits then codes "}\n"

-- what is left from the calls on
abbrev pub calls_left : Bool → List Done → List ℕ → ℕ → List ℕ
calls_left begun calls order visits =
    list_left begun done_value calls then codes ",\"order\":" then order_left false order visits

-- what is left of a report's JSON, from a part on
abbrev pub text_left : NextPart → Left → List ℕ
text_left parts.Open left =
    codes "{\"calls\":" then calls_left false left.calls.now left.order.now left.visits
text_left (parts.Calls begun) left =
    calls_left begun left.calls.now left.order.now left.visits
text_left (parts.Order begun) left = order_left begun left.order.now left.visits
text_left parts.Done left = []

-- the JSON of a report: the part that was made last, and what is left
pub record PartsState : Type 0 where
  pub part : List ℕ
  pub left : List ℕ

-- the values that are kept of an object
abbrev pub seen_values : ValuesKept → InputValues
seen_values kept = record {
  callers = view kept.first.callers;
  calls = view kept.first.calls;
  edges = view kept.first.edges;
  k = view kept.first.k;
  nodes = view kept.last.nodes;
  order = view kept.last.order;
  subs = view kept.last.subs;
  track = view kept.last.track;
}

-- the line of an item, where it has its shape
abbrev pub line_in : Kind → Data → Option (List ℕ)
line_in kinds.Edge value = option_map edge_line (edge_in value)
line_in kinds.Sub value = option_map home_line (number_in value)
line_in kinds.Call value = option_map call_line (call_in value)

-- a value is a list of such items, and these are their lines
abbrev pub HasLines : Kind → Data → List ℕ → Type 0
HasLines kinds.Edge value lines =
    (edges : List Edge) × (list_in edge_in value ≡ Some edges)
    × (lines ≡ concat (map edge_line edges))
HasLines kinds.Sub value lines =
    (homes : List ℕ) × (list_in number_in value ≡ Some homes)
    × (lines ≡ concat (map home_line homes))
HasLines kinds.Call value lines =
    (calls : List ActorCall) × (list_in call_in value ≡ Some calls)
    × (lines ≡ concat (map call_line calls))

-- a value is no list of such items
abbrev pub HasNone : Kind → Data → Type 0
HasNone kinds.Edge value = list_in edge_in value ≡ None
HasNone kinds.Sub value = list_in number_in value ≡ None
HasNone kinds.Call value = list_in call_in value ≡ None
