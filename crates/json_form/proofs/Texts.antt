-- The texts of calls and of whole reports are the texts of their values.
use Rattle.std.proofs.Common.{◌≡◌, ℕ, ◌≤◌, ◌-◌, arith, get_or, take, drop, Bool, true, false, List, [], ◌∷◌, ◌++◌, Option, Some, None, ◌⊎◌, inl, inr, append_assoc, length, codes, refl, sym, ap, ◌∙◌}
use Rattle.std.proofs.lemmas.List.{take_all}
use Rattle.std.specs.Fmt.{decimal}
use Rattle.std.specs.List.{concat}
use Rattle.directory.specs.declared.answers.Done.{Done}
use Rattle.directory.specs.declared.answers.Done.TheVariants.{Moved, Switched, Found, Off, Again}
use Rattle.directory.specs.CallLines.{line_of_find}
use Rattle.directory.specs.declared.answers.FindLine.{FindLine}
use Rattle.directory.specs.declared.answers.Found.TheVariants.{At, Off as OffAt}
use Rattle.directory.specs.declared.answers.Why.TheVariants.{Empty, NoEntry, Chased}
use Rattle.directory.specs.Outcomes.{Outcome}
use Rattle.json.specs.Print.{escape_byte}
use Rattle.serde_json.specs.Written.{compact_text}
use Rattle.json_form.specs.Left.{answer_pieces, calls_left, done_pieces, kind_text, list_left, member_text, opening, order_left}
use Rattle.json_form.specs.Reports.{done_value, report_json_of}
use Rattle.input_text.specs.Listing.{ListingValue}
use Rattle.json_form.specs.Inputs.{call_value, edge_value, listing_value}
use Rattle.json_form.specs.Values.{line_of_value, list_by, wholes}
use Rattle.json_form.proofs.Pieces.{grown, list-more}

-- the pieces of a find that answers, on or off
abbrev pub place_pieces : FindLine → ℕ → ℕ → Option ℕ → ℕ → List (List ℕ)
place_pieces find node number level weight =
    member_text (codes "{\"actor\"") find.actor
    ∷ answer_pieces (kind_text find.found) find.from find.sub node number level weight find.first find.last

pub placed : (find : FindLine) {node number : ℕ} {level : Option ℕ} {weight : ℕ}
    → (find.found ≡ At node number level weight) ⊎ (find.found ≡ OffAt node number level weight)
    → place_pieces find node number level weight ≡ done_pieces (line_of_find find)
placed find (inl at) = rw at refl
placed find (inr off) = rw off refl

-- what is written of a call is the text of its value
pub done-is : (done : Done) → concat (done_pieces done) ≡ compact_text (done_value done)
unfolding escape_byte
done-is (Moved actor number from to weight first commit last) = refl
done-is (Switched actor true node number ticket) = refl
done-is (Switched actor false node number ticket) = refl
done-is (Found actor from sub node number None weight first last) = refl
done-is (Found actor from sub node number (Some level) weight first last) = refl
done-is (Off actor from sub node number None weight first last) = refl
done-is (Off actor from sub node number (Some level) weight first last) = refl
done-is (Again actor from sub (Empty at) weight first last) = refl
done-is (Again actor from sub NoEntry weight first last) = refl
done-is (Again actor from sub Chased weight first last) = refl

regroup : (calls order visits : List ℕ)
    → codes "{\"calls\":" ++ (calls ++ (codes ",\"order\":" ++
    (order ++ ((codes ",\"visits\":" ++ visits) ++ codes "}\n"))))
    ≡ (codes "{\"calls\":" ++ (calls ++ (codes ",\"order\":" ++
    (order ++ ((codes ",\"visits\":" ++ visits) ++ codes "}"))))) ++ 10 ∷ []
regroup calls order visits = simp append_assoc

whole-report : (outcome : Outcome)
    → codes "{\"calls\":" ++ calls_left false outcome.calls outcome.order (length outcome.order)
    ≡ report_json_of outcome
unfolding escape_byte
whole-report outcome =
    regroup (compact_text (list_by done_value outcome.calls)) (compact_text (wholes outcome.order))
    (decimal (length outcome.order))

-- what is written of a report is its JSON
pub report-is : (outcome : Outcome) {calls : List Done} {order : List ℕ} {visits : ℕ} → calls ≡ outcome.calls
    → order ≡ outcome.order → visits ≡ length outcome.order
    → codes "{\"calls\":" ++ calls_left false calls order visits ≡ report_json_of outcome
report-is outcome {order} {visits} same_calls same_order count =
    ap (λ (xs : List Done). codes "{\"calls\":" ++ calls_left false xs order visits) same_calls
    ∙ ap (λ (xs : List ℕ). codes "{\"calls\":" ++ calls_left false outcome.calls xs visits) same_order
    ∙ ap (λ (n : ℕ). codes "{\"calls\":" ++ calls_left false outcome.calls outcome.order n) count
    ∙ whole-report outcome

-- the first call of those that are left
pub call-step : (begun : Bool) (calls : List Done) (none : Done) (order : List ℕ) (visits : ℕ) {opened line : List ℕ}
    → 1 ≤ length calls → opened ≡ opening begun → line ≡ opened ++ concat (done_pieces (get_or calls 0 none))
    → calls_left begun calls order visits ≡ line ++ calls_left true (take (length calls - 1) (drop 1 calls)) order
    visits
call-step begun [] none order visits some opens is = absurd (omega arith)
call-step begun (call ∷ calls) none order visits {line} some opens is =
    let rest = calls_left true calls order visits in
    let behind = codes ",\"order\":" ++ order_left false order visits in
    let item = compact_text (done_value call) in
    let last : take (length (call ∷ calls) - 1) calls ≡ calls = take_all (length (call ∷ calls) - 1) calls (omega arith)
    in
    ap (λ (l : List ℕ). l ++ behind) (list-more begun done_value call calls)
    ∙ append_assoc (opening begun) (item ++ list_left true done_value calls) behind
    ∙ ap (λ (l : List ℕ). opening begun ++ l) (append_assoc item (list_left true done_value calls) behind)
    ∙ sym (append_assoc (opening begun) item rest)
    ∙ ap (λ (l : List ℕ). (opening begun ++ l) ++ rest) (sym (done-is call))
    ∙ ap (λ (l : List ℕ). (l ++ concat (done_pieces call)) ++ rest) (sym opens)
    ∙ ap (λ (l : List ℕ). l ++ rest) (sym is)
    ∙ ap (λ (l : List Done). line ++ calls_left true l order visits) (sym last)

regroup-input : (a b c d e f g h end feed callers calls edges k nodes order subs format : List ℕ)
    → grown []
    (((a ++ callers) ++ b) ∷ calls ∷ c ∷ edges ∷ (((d ++ k) ++ (e ++ nodes)) ++ f) ∷ order ∷ g ∷ subs
    ∷ ((h ++ format) ++ (end ++ feed)) ∷ [])
    ≡ (a ++ (callers ++ (b ++ (calls ++ (c ++ (edges ++ (d ++ (k ++ (e ++ (nodes ++ (f ++ (order
    ++ (g ++ (subs ++ (h ++ (format ++ end)))))))))))))))) ++ feed
regroup-input a b c d e f g h end feed callers calls edges k nodes order subs format = simp append_assoc

-- what is written of an input is its JSON
pub input-is : (listing : ListingValue)
    → grown []
    ((member_text (codes "{\"callers\"") listing.callers ++ codes ",\"calls\":")
    ∷ compact_text (list_by call_value listing.calls)
    ∷ codes ",\"edges\":"
    ∷ compact_text (list_by edge_value listing.edges)
    ∷ ((member_text (codes ",\"k\"") listing.k ++ member_text (codes ",\"nodes\"") listing.nodes)
    ++ codes ",\"order\":")
    ∷ compact_text (wholes listing.order)
    ∷ codes ",\"subs\":"
    ∷ compact_text (wholes listing.homes)
    ∷ (member_text (codes ",\"track\"") listing.format ++ codes "}\n")
    ∷ [])
    ≡ line_of_value (listing_value listing)
unfolding escape_byte
input-is listing =
    regroup-input (codes "{\"callers\":") (codes ",\"calls\":") (codes ",\"edges\":") (codes ",\"k\":")
    (codes ",\"nodes\":") (codes ",\"order\":") (codes ",\"subs\":") (codes ",\"track\":") (codes "}") (10 ∷ [])
    (decimal listing.callers) (compact_text (list_by call_value listing.calls))
    (compact_text (list_by edge_value listing.edges)) (decimal listing.k) (decimal listing.nodes)
    (compact_text (wholes listing.order)) (compact_text (wholes listing.homes)) (decimal listing.format)
