-- Values that are lists of items, and the text of a listing line by line.
use Rattle.std.proofs.Common.{◌≡◌, ◌⊎◌, inl, inr, ℕ, List, [], ◌∷◌, ◌++◌, map, Option, Some, None, Result, Ok, Err, Vec, Global, IfOk, IfErr, codes, option_map, option_and_then, append-nil, refl, sym, ap, ◌∙◌}
use Rattle.std.specs.List.{concat}
use Rattle.std.proofs.lemmas.List.Folds.{concat-append}
use Rattle.directory.specs.ListLaws.{option_map-none}
use Rattle.input_text.specs.Listing.{ListingValue, call_line, edge_line, home_line, line_of, listing_text}
use Rattle.serde_json.specs.Data.{Data, Items, Members}
use Rattle.serde_json.specs.Find.{as_array, as_object}
use Rattle.text_line.specs.OrderLines.{order_lines}
use Rattle.word_line.specs.Forms.{◌>>=◌}
use Rattle.json_form.specs.declared.fault.JsonFault.{JsonFault}
use Rattle.json_form.specs.declared.fault.JsonFault.TheVariants as faults
use Rattle.json_form.specs.declared.rows.Kind.{Kind}
use Rattle.json_form.specs.declared.rows.Kind.TheVariants as kinds
use Rattle.json_form.specs.TextOfJson.{IsJson, IsJsonText, IsShapeless}
use Rattle.json_form.specs.Left.{HasLines, HasNone, line_in}
use Rattle.json_form.specs.Taking.{InputValues, call_in, each_in, edge_in, list_in, listing_of_values, number_in, values_of}
use Rattle.json_form.proofs.Each.{each-map, option-map-some}
use Rattle.json_form.proofs.Pieces.{grown, grown-is}
use Rattle.json_form.proofs.Told.{none-told, shapes-taken}

list-map-at : {A B : Type 0} (read : Data → Option A) (f : A → B) (o : Option Items)
    → option_and_then (each_in (λ v. option_map f (read v))) o ≡ option_map (map f) (option_and_then (each_in read) o)
list-map-at read f None = refl
list-map-at read f (Some items) = each-map read f items

-- the lines of the items of a list
pub lines-known : (kind : Kind) (value : Data) {pieces : List (List ℕ)} → list_in (line_in kind) value ≡ Some pieces
    → HasLines kind value (concat pieces)
lines-known kinds.Edge value is =
    let back = option-map-some (map edge_line) (list_in edge_in value)
    (sym (list-map-at edge_in edge_line (as_array value)) ∙ is) in
    (back.0, back.1, ap concat (sym back.2))
lines-known kinds.Sub value is =
    let back = option-map-some (map home_line) (list_in number_in value)
    (sym (list-map-at number_in home_line (as_array value)) ∙ is) in
    (back.0, back.1, ap concat (sym back.2))
lines-known kinds.Call value is =
    let back = option-map-some (map call_line) (list_in call_in value)
    (sym (list-map-at call_in call_line (as_array value)) ∙ is) in
    (back.0, back.1, ap concat (sym back.2))

pub lines-none : (kind : Kind) (value : Data) → list_in (line_in kind) value ≡ None → HasNone kind value
lines-none kinds.Edge value is =
    option_map-none (map edge_line) (list_in edge_in value) (sym (list-map-at edge_in edge_line (as_array value)) ∙ is)
lines-none kinds.Sub value is =
    option_map-none (map home_line) (list_in number_in value)
    (sym (list-map-at number_in home_line (as_array value)) ∙ is)
lines-none kinds.Call value is =
    option_map-none (map call_line) (list_in call_in value) (sym (list-map-at call_in call_line (as_array value)) ∙ is)

-- the parts of a listing's text
abbrev pub text_pieces : ListingValue → List (List ℕ)
text_pieces listing =
    line_of (codes "track") (listing.format ∷ [])
    ∷ line_of (codes "nodes") (listing.nodes ∷ [])
    ∷ line_of (codes "k") (listing.k ∷ [])
    ∷ concat (map edge_line listing.edges)
    ∷ concat (map home_line listing.homes)
    ∷ line_of (codes "callers") (listing.callers ∷ [])
    ∷ concat (map call_line listing.calls)
    ∷ concat (order_lines listing.order)
    ∷ []

text-is : (listing : ListingValue) → concat (text_pieces listing) ≡ listing_text listing
text-is listing =
    let track = line_of (codes "track") (listing.format ∷ []) in
    let nodes = line_of (codes "nodes") (listing.nodes ∷ []) in
    let k = line_of (codes "k") (listing.k ∷ []) in
    let edges : List (List ℕ) = map edge_line listing.edges in
    let homes : List (List ℕ) = map home_line listing.homes in
    let callers = line_of (codes "callers") (listing.callers ∷ []) in
    let calls : List (List ℕ) = map call_line listing.calls in
    let orders : List (List ℕ) = order_lines listing.order in
    let after_homes : List (List ℕ) = callers ∷ (calls ++ orders) in
    let after_edges : List (List ℕ) = homes ++ after_homes in
    ap (λ (l : List ℕ). track ++ (nodes ++ (k ++ l)))
    (ap (λ (l : List ℕ). concat edges ++ (concat homes ++ (callers ++ (concat calls ++ l))))
    (append-nil (concat orders))
    ∙ ap (λ (l : List ℕ). concat edges ++ (concat homes ++ (callers ++ l))) (sym (concat-append calls orders))
    ∙ ap (λ (l : List ℕ). concat edges ++ l) (sym (concat-append homes after_homes))
    ∙ sym (concat-append edges after_edges))

-- they after a text
pub text-behind : (text : List ℕ) (listing : ListingValue)
    → grown text (text_pieces listing) ≡ text ++ listing_text listing
text-behind text listing = grown-is text (text_pieces listing) ∙ ap (λ (l : List ℕ). text ++ l) (text-is listing)

listing-from : (o : Option Members) {values : InputValues} → option_and_then values_of o ≡ Some values
    → (o >>= (λ members. values_of members >>= listing_of_values)) ≡ listing_of_values values
listing-from None is = absurd cc
listing-from (Some _) is = rw is refl

no-listing : (o : Option Members) → option_and_then values_of o ≡ None
    → (o >>= (λ members. values_of members >>= listing_of_values)) ≡ None
no-listing None is = refl
no-listing (Some _) is = rw is refl

-- what is answered where they aren't
pub no-keys : {bytes : List ℕ} {value : Data} → IsJson bytes value → option_and_then values_of (as_object value) ≡ None
    → IsShapeless bytes
no-keys {value} json none =
    record { value = value; json = json; shape = none-told (no-listing (as_object value) none) }

-- what is answered where the keys are right
pub answer-is : {bytes : List ℕ} {value : Data} {values : InputValues} (answer : Result (Vec ℕ Global) JsonFault)
    → IsJson bytes value → option_and_then values_of (as_object value) ≡ Some values
    → IfOk answer (λ text. option_map listing_text (listing_of_values values) ≡ Some text.items)
    → IfErr answer (λ fault. (fault ≡ faults.OutOfMemory) ⊎
    ((fault ≡ faults.Shape) × (listing_of_values values ≡ None))) → IsJsonText bytes answer
answer-is {value} {values} (Ok text) json keys ok err =
    let back = option-map-some listing_text (listing_of_values values) ok in
    record {
      listing = back.0;
      listed = record {
        value = value;
        json = json;
        shape = (shapes-taken value back.0).0 (listing-from (as_object value) keys ∙ back.1);
      };
      is = sym back.2;
    }
answer-is (Err faults.Json) json keys ok (inl e) = absurd cc
answer-is (Err faults.Json) json keys ok (inr e) = let wrong = e.0 in absurd cc
answer-is (Err faults.Shape) json keys ok (inl e) = absurd cc
answer-is {value} (Err faults.Shape) json keys ok (inr e) =
    record { value = value; json = json; shape = none-told (listing-from (as_object value) keys ∙ e.1) }
answer-is (Err faults.OutOfMemory) json keys ok err = tt
