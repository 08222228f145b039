-- The JSON of a valid input is read back.
use Rattle.std.proofs.Common.{◌≡◌, ◌⊎◌, inl, inr, ℕ, suc, ◌+◌, ◌<◌, ◌≤◌, Bool, true, false, List, [], ◌∷◌, ◌++◌, Some, Ok, IsUtf8, codes, length, get_or, refl, subst, arith}
use Rattle.std.proofs.lemmas.Bool.{cases_lt}
use Rattle.std.proofs.lemmas.Str.{IsUtf8-append}
use Rattle.net_graph.specs.Network.{IsEdge}
use Rattle.net_reader.specs.declared.said.Call.{Call}
use Rattle.net_reader.specs.declared.said.Call.TheVariants as calls
use Rattle.net_reader.specs.Input.{Contents, IsInput}
use Rattle.net_reader.specs.Table.{most_nodes}
use Rattle.net_reader.specs.Valid.{IsCourse, IsSearch, IsValid}
use Rattle.input_text.specs.Listing.{ListingValue, calls_from, calls_of, input_text_of, listing_of}
use Rattle.json.proofs.Printed.Utf8.{IsUtf8-are_ascii, IsUtf8-quoted}
use Rattle.serde_json.specs.Data.{Data, Members, member, no_members}
use Rattle.serde_json.specs.Written.{comma_if, compact_text, members_text}
use Rattle.json_form.specs.Inputs.{call_value, edge_value, listing_value, word_and_numbers}
use Rattle.json_form.specs.Laws.{InputsReturn}
use Rattle.json_form.specs.Values.{list_by, whole, wholes}
use Rattle.json_form.proofs.Readable.{IsReadable, array-readable, comma-utf8, line-read, line-utf8, whole-readable}
use Rattle.json_form.proofs.Small.{Each, IsSmall, IsSmallEdge, IsSmallListing, IsSmallSpoken, call-readable, each-append, each-map, each-of, edge-readable, list-readable, numbers-readable}
use Rattle.json_form.proofs.Told.{listing-tells}

member-utf8 : (later : Bool) (k : List ℕ) (d : Data) (ms : Members) → IsUtf8 k → IsUtf8 (compact_text d)
    → IsUtf8 (members_text true ms) → IsUtf8 (members_text later (member k d ms))
member-utf8 later k d ms key value others =
    IsUtf8-append (comma_if later) _ (comma-utf8 later)
    (IsUtf8-append _ (58 ∷ (compact_text d ++ members_text true ms)) (IsUtf8-quoted k key)
    (IsUtf8-append (58 ∷ []) (compact_text d ++ members_text true ms) (IsUtf8-are_ascii (58 ∷ []) refl)
    (IsUtf8-append (compact_text d) (members_text true ms) value others)))

listing-readable : {listing : ListingValue} → IsSmallListing listing → IsReadable 3 (listing_value listing)
listing-readable {listing} small =
    let callers = whole-readable 2 listing.callers (omega (arith, small.callers)) in
    let spoken = array-readable (list-readable 1 call_value listing.calls
    (each-map IsSmallSpoken (λ x. IsReadable 1 (call_value x)) listing.calls (call-readable 0) small.spoken)) in
    let edges = array-readable (list-readable 1 edge_value listing.edges
    (each-map IsSmallEdge (λ x. IsReadable 1 (edge_value x)) listing.edges (edge-readable 0) small.edges)) in
    let k = whole-readable 2 listing.k (omega (arith, small.k)) in
    let nodes = whole-readable 2 listing.nodes (omega (arith, small.nodes)) in
    let order = array-readable (numbers-readable 1 listing.order small.order) in
    let homes = array-readable (numbers-readable 1 listing.homes small.homes) in
    let format = whole-readable 2 listing.format (omega (arith, small.format)) in
    let from_track : Members = member (codes "track") (whole listing.format) no_members in
    let from_subs : Members = member (codes "subs") (wholes listing.homes) from_track in
    let from_order : Members = member (codes "order") (wholes listing.order) from_subs in
    let from_nodes : Members = member (codes "nodes") (whole listing.nodes) from_order in
    let from_k : Members = member (codes "k") (whole listing.k) from_nodes in
    let from_edges : Members = member (codes "edges") (list_by edge_value listing.edges) from_k in
    let from_calls : Members = member (codes "calls") (list_by call_value listing.calls) from_edges in
    record {
      numbers = (
        callers.numbers,
        (
          spoken.numbers,
          (
            edges.numbers,
            (
              k.numbers,
              (
                nodes.numbers,
                (
                  order.numbers,
                  (homes.numbers, (format.numbers, tt)),
                ),
              ),
            ),
          ),
        ),
      );
      same = rw (
        callers.same,
        spoken.same,
        edges.same,
        k.same,
        nodes.same,
        order.same,
        homes.same,
        format.same,
      ) refl;
      utf8 = IsUtf8-append (123 ∷ []) (members_text false (member (codes "callers") (whole listing.callers) from_calls))
          (IsUtf8-are_ascii (123 ∷ []) refl)
          (member-utf8 false (codes "callers") (whole listing.callers) from_calls (IsUtf8-are_ascii _ refl) callers.utf8
          (member-utf8 true (codes "calls") (list_by call_value listing.calls) from_edges (IsUtf8-are_ascii _ refl)
          spoken.utf8
          (member-utf8 true (codes "edges") (list_by edge_value listing.edges) from_k (IsUtf8-are_ascii _ refl)
          edges.utf8
          (member-utf8 true (codes "k") (whole listing.k) from_nodes (IsUtf8-are_ascii _ refl) k.utf8
          (member-utf8 true (codes "nodes") (whole listing.nodes) from_order (IsUtf8-are_ascii _ refl) nodes.utf8
          (member-utf8 true (codes "order") (wholes listing.order) from_subs (IsUtf8-are_ascii _ refl) order.utf8
          (member-utf8 true (codes "subs") (wholes listing.homes) from_track (IsUtf8-are_ascii _ refl) homes.utf8
          (member-utf8 true (codes "track") (whole listing.format) no_members (IsUtf8-are_ascii _ refl) format.utf8
          (IsUtf8-are_ascii (125 ∷ []) refl)))))))));
      shallow = omega (
        arith,
        callers.shallow,
        spoken.shallow,
        edges.shallow,
        k.shallow,
        nodes.shallow,
        order.shallow,
        homes.shallow,
        format.shallow,
      );
    }

-- ---- the numbers of a valid input

-- the numbers of a call, but for its actor
abbrev pub IsSmallCall : Call → Type 0
IsSmallCall (calls.Move to) = IsSmall to
IsSmallCall (calls.Find from sub) = IsSmall from × IsSmall sub
IsSmallCall calls.Off = Unit {0}
IsSmallCall calls.On = Unit {0}

spoken-small : {actor : ℕ} (call : Call) → IsSmall actor → IsSmallCall call
    → Each IsSmall (word_and_numbers actor call).1
spoken-small (calls.Move to) small more = (small, (more, tt))
spoken-small (calls.Find from sub) small more = (small, (more.0, (more.1, tt)))
spoken-small calls.Off small more = (small, tt)
spoken-small calls.On small more = (small, tt)

course-small : (format : ℕ) {n : ℕ} (here : ℕ) (off : Bool) (script : List Call) → n ≤ 1024
    → IsCourse format n here off script → Each IsSmallCall script
course-small format here off [] few course = tt
course-small format here off (calls.Move to ∷ script) few course =
    (omega (arith, few, course.1), course-small format to off script few course.3)
course-small format here off (calls.Find from sub ∷ script) few course = absurd course
course-small format here off (calls.Off ∷ script) few course =
    (tt, course-small format here true script few course.2)
course-small format here off (calls.On ∷ script) few course =
    (tt, course-small format here false script few course.2)

search-small : {n subs : ℕ} (call : Call) → n ≤ 1024 → subs ≤ 1024 → IsSearch n subs call → IsSmallCall call
search-small (calls.Move to) few some search = absurd search
search-small (calls.Find from sub) few some search = (
  omega (arith, few, search.0),
  omega
      (arith, some, search.1),
)
search-small calls.Off few some search = absurd search
search-small calls.On few some search = absurd search

own-small : {actor : ℕ} (script : List Call) → IsSmall actor → Each IsSmallCall script
    → Each IsSmallSpoken (calls_of actor script)
own-small [] small all = tt
own-small (call ∷ script) small all = (spoken-small call small all.0, own-small script small all.1)

listed-small : (actor : ℕ) (scripts : List (List Call)) → actor + length scripts ≤ 1024
    → ((i : ℕ) → i < length scripts → Each IsSmallCall (get_or scripts i []))
    → Each IsSmallSpoken (calls_from actor scripts)
listed-small actor [] few all = tt
listed-small actor (script ∷ scripts) few all =
    each-append IsSmallSpoken (calls_of actor script) (calls_from (actor + 1) scripts)
    (own-small script (omega arith) (all 0 (omega arith)))
    (listed-small (actor + 1) scripts (omega arith) (λ i below. all (suc i) (omega arith)))

few-nodes : {format : ℕ} (n : ℕ) → (format ≡ 1) ⊎ (format ≡ 2) → n ≤ most_nodes format → n ≤ 1024
few-nodes n (inl e) few = let less : n ≤ 256 = subst (λ (f : ℕ). n ≤ most_nodes f) e few in omega arith
few-nodes n (inr e) few = subst (λ (f : ℕ). n ≤ most_nodes f) e few

valid-small : {contents : Contents} → IsValid contents → IsSmallListing (listing_of contents)
valid-small {contents} valid =
    let few = few-nodes contents.nodes valid.format valid.few in
    record {
      format = elim valid.format [ inl e ↦ omega (arith, e) | inr e ↦ omega (arith, e) ];
      nodes = omega (arith, few);
      k = omega (arith, valid.k_few);
      edges = each-of (IsEdge contents.nodes) IsSmallEdge contents.edges (λ edge is.
          (omega (arith, is.a_below, few), (omega (arith, is.b_below, few), (omega (arith, is.light), tt))))
          valid.edges;
      homes = each-of (λ home. home < contents.nodes) IsSmall contents.homes (λ home is. omega (arith, is, few))
          valid.homes;
      callers = omega (arith, valid.callers);
      spoken = listed-small 0 contents.scripts (omega (arith, valid.scripts, valid.few_homes, valid.callers))
          (λ i below. elim (cases_lt i (length contents.homes)) [
            | inl sub ↦ course-small contents.format (get_or contents.homes i 0) false (get_or contents.scripts i [])
                few (valid.courses i sub)
            | inr caller ↦ each-of (IsSearch contents.nodes (length contents.homes)) IsSmallCall
                (get_or contents.scripts i []) (λ call is. search-small call few (omega (arith, valid.few_homes)) is)
                (valid.searches i caller below)
          ]);
      order = each-of (λ actor. actor < length contents.scripts) IsSmall contents.order
          (λ actor is. omega (arith, is, valid.scripts, valid.few_homes, valid.callers)) valid.order;
    }

pub returned : ((contents : Contents) → IsValid contents → IsInput (input_text_of contents) (Ok contents))
    → InputsReturn
returned reads contents valid =
    let listing = listing_of contents in
    let small = valid-small valid in
    let readable = listing-readable small in (
      record {
        listing = listing;
        listed = record {
          value = listing_value listing;
          json = record {
            utf8 = line-utf8 readable;
            reads = line-read readable (omega arith);
          };
          shape = listing-tells small;
        };
        is = refl;
      },
      reads contents valid,
    )
