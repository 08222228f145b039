-- Listings whose numbers are small: their values have the shape, and are readable.
use Rattle.std.proofs.Common.{◌≡◌, ℕ, suc, ◌≤◌, List, [], ◌∷◌, ◌++◌, map, Option, Some, All, IsUtf8, option_and_then, le-leb, refl, ap, arith}
use Rattle.std.proofs.lemmas.List.Elements.{All-weaker, recursion_from_All}
use Rattle.std.specs.List.{AllByRecursion}
use Rattle.net_graph.specs.declared.edge.Edge.{Edge}
use Rattle.net_reader.specs.declared.said.Call.{Call}
use Rattle.net_reader.specs.declared.said.Call.TheVariants as calls
use Rattle.input_text.specs.declared.listing.ActorCall.{ActorCall}
use Rattle.json.proofs.Printed.Utf8.{IsUtf8-are_ascii}
use Rattle.serde_json.specs.Data.{Data}
use Rattle.serde_json.specs.View.{items_of}
use Rattle.input_text.specs.Listing.{ListingValue}
use Rattle.json_form.specs.Inputs.{call_numbers, call_value, edge_numbers, edge_value, word_and_numbers}
use Rattle.json_form.specs.Shapes.{most_number}
use Rattle.json_form.specs.Taking.{call_in, each_in, edge_in, edge_of, number_in}
use Rattle.json_form.specs.Values.{row, whole}
use Rattle.json_form.proofs.Readable.{AreReadable, IsReadable, array-readable, more-readable, none-readable, whole-readable, word-readable}

-- a number of at most eighteen digits
abbrev pub IsSmall : ℕ → Type 0
IsSmall n = n ≤ most_number

-- of each element
abbrev pub Each : {A : Type 0} → (A → Type 0) → List A → Type 0
Each P xs = AllByRecursion P xs

pub each-of : {A : Type 0} (P Q : A → Type 0) (xs : List A) → ((x : A) → P x → Q x) → All P xs → Each Q xs
each-of P Q xs f all = recursion_from_All Q xs (All-weaker P Q f xs all)

pub small-number : {n : ℕ} → IsSmall n → number_in (whole n) ≡ Some n
small-number {n} small = rw (le-leb n 999999999999999999 small) refl

-- a list is read back
pub list-back : {A : Type 0} (read : Data → Option A) (value : A → Data) (xs : List A)
    → Each (λ x. read (value x) ≡ Some x) xs → each_in read (items_of (map value xs)) ≡ Some xs
list-back read value [] all = refl
list-back read value (x ∷ xs) all = rw (all.0, list-back read value xs all.1) refl

pub list-readable : {A : Type 0} (k : ℕ) (value : A → Data) (xs : List A)
    → Each (λ x. IsReadable k (value x)) xs → AreReadable k (items_of (map value xs))
list-readable k value [] all = none-readable k
list-readable k value (x ∷ xs) all =
    more-readable all.0 (list-readable k value xs all.1)

small-numbers : (ns : List ℕ) → Each IsSmall ns → Each (λ n. number_in (whole n) ≡ Some n) ns
small-numbers [] all = tt
small-numbers (n ∷ ns) all = (small-number all.0, small-numbers ns all.1)

readable-numbers : (k : ℕ) (ns : List ℕ) → Each IsSmall ns → Each (λ n. IsReadable k (whole n)) ns
readable-numbers k [] all = tt
readable-numbers k (n ∷ ns) all = (whole-readable k n (omega (arith, all.0)), readable-numbers k ns all.1)

pub numbers-back : (ns : List ℕ) → Each IsSmall ns → each_in number_in (items_of (map whole ns)) ≡ Some ns
numbers-back ns all = list-back number_in whole ns (small-numbers ns all)

pub numbers-readable : (k : ℕ) (ns : List ℕ) → Each IsSmall ns → AreReadable k (items_of (map whole ns))
numbers-readable k ns all = list-readable k whole ns (readable-numbers k ns all)

-- an edge
abbrev pub IsSmallEdge : Edge → Type 0
IsSmallEdge edge = Each IsSmall (edge_numbers edge)

pub edge-back : (edge : Edge) → IsSmallEdge edge → edge_in (edge_value edge) ≡ Some edge
edge-back edge small = ap (option_and_then edge_of) (numbers-back (edge_numbers edge) small)

pub edge-readable : (k : ℕ) (edge : Edge) → IsSmallEdge edge → IsReadable (suc k) (edge_value edge)
edge-readable k edge small = array-readable (numbers-readable k (edge_numbers edge) small)

-- a call
abbrev pub IsSmallSpoken : ActorCall → Type 0
IsSmallSpoken call = Each IsSmall (call_numbers call)

back : {actor : ℕ} (call : Call) → Each IsSmall (word_and_numbers actor call).1
    → call_in (row (word_and_numbers actor call).0 (word_and_numbers actor call).1)
    ≡ Some (record { actor = actor; call = call })
back {actor} (calls.Move to) small = rw (numbers-back (actor ∷ to ∷ []) small) refl
back {actor} (calls.Find from sub) small = rw (numbers-back (actor ∷ from ∷ sub ∷ []) small) refl
back {actor} calls.Off small = rw (numbers-back (actor ∷ []) small) refl
back {actor} calls.On small = rw (numbers-back (actor ∷ []) small) refl

pub call-back : (call : ActorCall) → IsSmallSpoken call → call_in (call_value call) ≡ Some call
call-back call small = back call.call small

word-utf8 : (actor : ℕ) (call : Call) → IsUtf8 (word_and_numbers actor call).0
word-utf8 actor (calls.Move to) = IsUtf8-are_ascii _ refl
word-utf8 actor (calls.Find from sub) = IsUtf8-are_ascii _ refl
word-utf8 actor calls.Off = IsUtf8-are_ascii _ refl
word-utf8 actor calls.On = IsUtf8-are_ascii _ refl

pub call-readable : (k : ℕ) (call : ActorCall) → IsSmallSpoken call → IsReadable (suc k) (call_value call)
call-readable k call small =
    array-readable (more-readable (word-readable k (word-utf8 call.actor call.call))
    (numbers-readable k (call_numbers call) small))

-- all numbers of a listing
pub record IsSmallListing (listing : ListingValue) : Type 0 where
  pub format : IsSmall listing.format
  pub nodes : IsSmall listing.nodes
  pub k : IsSmall listing.k
  pub edges : Each IsSmallEdge listing.edges
  pub homes : Each IsSmall listing.homes
  pub callers : IsSmall listing.callers
  pub spoken : Each IsSmallSpoken listing.calls
  pub order : Each IsSmall listing.order

pub each-map : {A : Type 0} (P Q : A → Type 0) (xs : List A) → ((x : A) → P x → Q x) → Each P xs → Each Q xs
each-map P Q [] f all = tt
each-map P Q (x ∷ xs) f all = (f x all.0, each-map P Q xs f all.1)

pub each-append : {A : Type 0} (P : A → Type 0) (xs ys : List A) → Each P xs → Each P ys → Each P (xs ++ ys)
each-append P [] ys all more = more
each-append P (x ∷ xs) ys all more = (all.0, each-append P xs ys all.1 more)
