-- The listing that a value tells is the one that is taken out of it.
use Rattle.std.proofs.Common.{◌≡◌, ◌⊎◌, inl, inr, ℕ, ◌≤◌, Bool, true, false, All, List, [], ◌∷◌, ◌++◌, map, Option, Some, None, nat_le, if◌then◌else◌, bytes_eq, codes, option_and_then, unwrap_or, refl, sym, subst, ap, ◌∙◌, arith}
use Rattle.std.proofs.lemmas.Bool.Decides.{nat_tests}
use Rattle.std.proofs.lemmas.List.Elements.{All-from_recursion}
use Rattle.std.proofs.lemmas.Slice.Eq.{bytes_eq-Decides}
use Rattle.std.specs.List.{concat}
use Rattle.directory.specs.ListLaws.{same_some}
use Rattle.net_graph.specs.declared.edge.Edge.{Edge}
use Rattle.net_reader.specs.declared.said.Call.{Call}
use Rattle.net_reader.specs.declared.said.Call.TheVariants as calls
use Rattle.input_text.specs.declared.listing.ActorCall.{ActorCall}
use Rattle.input_text.specs.Listing.{ListingValue}
use Rattle.serde_json.specs.Data.{Data, Items, Members, array, boolean, float, item, member, negative, no_items, no_members, null, number, object, string, unsigned}
use Rattle.serde_json.specs.Find.{as_str}
use Rattle.serde_json.specs.View.{items_of}
use Rattle.word_line.specs.Forms.{◌>>=◌}
use Rattle.json_form.specs.Inputs.{call_numbers, call_value, edge_numbers, edge_value, listing_value, value_with, word_and_numbers}
use Rattle.json_form.specs.Keyed.{lone_listing, lone_value}
use Rattle.json_form.specs.Laws.{NotRefused, OneListing, ShapesAreTaken}
use Rattle.json_form.specs.Shapes.{TellsListing, most_number, numbers_of}
use Rattle.json_form.specs.Taking.{InputValues, call_in, call_of, call_of_items, each_in, edge_in, edge_of, find_of, if_all, list_in, listing_in, listing_of_values, move_of, next_member, number_in, order_member, switch_of, values_from, values_of}
use Rattle.json_form.specs.TextOfJson.{IsListed, IsNoJson, IsShapeless}
use Rattle.json_form.specs.Values.{list_by, row, whole, wholes}
use Rattle.json_form.proofs.Each.{cons, cons-is}
use Rattle.json_form.proofs.Small.{Each, IsSmall, IsSmallEdge, IsSmallListing, IsSmallSpoken, call-back, each-append, each-map, each-of, edge-back, list-back, numbers-back, small-number}

-- ---- all numbers of a listing

each-parts : {A : Type 0} (P : A → Type 0) (xs ys : List A) → Each P (xs ++ ys) → Each P xs × Each P ys
each-parts P [] ys all = (tt, all)
each-parts P (x ∷ xs) ys all = let rest = each-parts P xs ys all.1 in ((all.0, rest.0), rest.1)

each-concat : (P : ℕ → Type 0) (lists : List (List ℕ)) → Each P (concat lists) → Each (Each P) lists
each-concat P [] all = tt
each-concat P (list ∷ lists) all =
    let parts = each-parts P list (concat lists) all in (parts.0, each-concat P lists parts.1)

concat-each : (P : ℕ → Type 0) (lists : List (List ℕ)) → Each (Each P) lists → Each P (concat lists)
concat-each P [] all = tt
concat-each P (list ∷ lists) all = each-append P list (concat lists) all.0 (concat-each P lists all.1)

each-mapped : {A B : Type 0} (P : B → Type 0) (f : A → B) (xs : List A) → Each P (map f xs) → Each (λ x. P (f x)) xs
each-mapped P f [] all = tt
each-mapped P f (x ∷ xs) all = (all.0, each-mapped P f xs all.1)

mapped-each : {A B : Type 0} (P : B → Type 0) (f : A → B) (xs : List A) → Each (λ x. P (f x)) xs → Each P (map f xs)
mapped-each P f [] all = tt
mapped-each P f (x ∷ xs) all = (all.0, mapped-each P f xs all.1)

abbrev lists_of : ListingValue → List (List ℕ)
lists_of listing =
    (listing.format ∷ listing.nodes ∷ listing.k ∷ listing.callers ∷ []) ∷ listing.homes ∷ listing.order
    ∷ map edge_numbers listing.edges ++ map call_numbers listing.calls

listing-small : {listing : ListingValue} → All (λ n. n ≤ most_number) (numbers_of listing) → IsSmallListing listing
listing-small {listing} short =
    let all = each-concat IsSmall (lists_of listing)
    (each-of (λ n. n ≤ most_number) IsSmall (numbers_of listing) (λ n few. few) short) in
    let rows = each-parts (Each IsSmall) (map edge_numbers listing.edges) (map call_numbers listing.calls) all.1.1.1 in
    record {
      format = all.0.0;
      nodes = all.0.1.0;
      k = all.0.1.1.0;
      edges = each-mapped (Each IsSmall) edge_numbers listing.edges rows.0;
      homes = all.1.0;
      callers = all.0.1.1.1.0;
      spoken = each-mapped (Each IsSmall) call_numbers listing.calls rows.1;
      order = all.1.1.0;
    }

listing-short : {listing : ListingValue} → IsSmallListing listing → All (λ n. n ≤ most_number) (numbers_of listing)
listing-short {listing} small =
    All-from_recursion (λ n. n ≤ most_number) (numbers_of listing) (concat-each IsSmall (lists_of listing) (
      (small.format, (small.nodes, (small.k, (small.callers, tt)))),
      (
        small.homes,
        (
          small.order,
          each-append (Each IsSmall) (map edge_numbers listing.edges) (map call_numbers listing.calls)
              (mapped-each (Each IsSmall) edge_numbers listing.edges small.edges)
              (mapped-each (Each IsSmall) call_numbers listing.calls small.spoken),
        ),
      ),
    ))

pub listing-tells : {listing : ListingValue} → IsSmallListing listing → TellsListing (listing_value listing) listing
listing-tells small = record { short = listing-short small; tells = inl refl }

-- ---- what is told is taken

whole-taken : {listing : ListingValue} → IsSmallListing listing → listing_in (listing_value listing) ≡ Some listing
whole-taken {listing} small = rw (
  small-number small.format,
  small-number small.nodes,
  small-number small.k,
  list-back edge_in edge_value listing.edges
      (each-map IsSmallEdge (λ x. edge_in (edge_value x) ≡ Some x) listing.edges edge-back small.edges),
  numbers-back listing.homes small.homes,
  small-number small.callers,
  list-back call_in call_value listing.calls
      (each-map IsSmallSpoken (λ x. call_in (call_value x) ≡ Some x) listing.calls call-back small.spoken),
  numbers-back listing.order small.order,
) refl

brief-taken : {listing : ListingValue} → IsSmallListing listing
    → listing_in (value_with (λ members. members) listing) ≡ Some (record listing { order = [] })
brief-taken {listing} small = rw (
  small-number small.format,
  small-number small.nodes,
  small-number small.k,
  list-back edge_in edge_value listing.edges
      (each-map IsSmallEdge (λ x. edge_in (edge_value x) ≡ Some x) listing.edges edge-back small.edges),
  numbers-back listing.homes small.homes,
  small-number small.callers,
  list-back call_in call_value listing.calls
      (each-map IsSmallSpoken (λ x. call_in (call_value x) ≡ Some x) listing.calls call-back small.spoken),
) refl

pub told-taken : {value : Data} {listing : ListingValue} → TellsListing value listing
    → listing_in value ≡ Some listing
told-taken {value} {listing} told =
    let small = listing-small told.short in
    elim told.tells [
      | inl e ↦ ap listing_in e ∙ whole-taken small
      | inr e ↦ ap listing_in e.1 ∙ brief-taken small
          ∙ ap (λ (o : List ℕ). Some (record listing { order = o })) (sym e.0)
    ]

-- ---- what is taken is told

within-told : (m n : ℕ) (b : Bool) → nat_le m most_number ≡ b → (if b then Some m else None) ≡ Some n
    → (whole m ≡ whole n) × IsSmall n
within-told m n true test is =
    let few : m ≤ most_number = grind (arith, nat_tests) in
    (ap whole (same_some is), subst IsSmall (same_some is) few)
within-told m n false test is = absurd cc

number-told : (value : Data) (n : ℕ) → number_in value ≡ Some n → (value ≡ whole n) × IsSmall n
number-told (number (unsigned m)) n is = within-told m n (nat_le m most_number) refl is
number-told (number (negative z)) n is = absurd cc
number-told (number (float x)) n is = absurd cc
number-told null n is = absurd cc
number-told (boolean b) n is = absurd cc
number-told (string s) n is = absurd cc
number-told (array items) n is = absurd cc
number-told (object _) n is = absurd cc

cons-told : {A : Type 0} (x : Option A) (ys : Option (List A)) (xs : List A) → cons x ys ≡ Some xs
    → (a : A) × (others : List A) × (x ≡ Some a) × (ys ≡ Some others) × (a ∷ others ≡ xs)
cons-told None ys xs is = absurd cc
cons-told (Some a) None xs is = absurd cc
cons-told (Some a) (Some others) xs is = (a, others, refl, refl, same_some is)

module _ {A : Type 0} (read : Data → Option A) (value : A → Data) (P : A → Type 0)
    (told : (d : Data) (x : A) → read d ≡ Some x → (d ≡ value x) × P x) where
  items-told : (items : Items) (xs : List A) → each_in read items ≡ Some xs
      → (items ≡ items_of (map value xs)) × Each P xs
  items-told no_items [] is = (refl, tt)
  items-told no_items (x ∷ xs) is = absurd cc
  items-told (item d items) xs is =
      let parts = cons-told (read d) (each_in read items) xs (sym (cons-is (read d) (each_in read items)) ∙ is) in
      let one = told d parts.0 parts.2 in
      let more = items-told items parts.1 parts.3 in
      let same : item d items ≡ item (value parts.0) (items_of (map value parts.1)) =
      ap (λ (e : Data). item e items) one.0 ∙ ap (λ (l : Items). item (value parts.0) l) more.0 in
      subst (λ (l : List A). (item d items ≡ items_of (map value l)) × Each P l) parts.4 (same, (one.1, more.1))

  list-told : (d : Data) (xs : List A) → list_in read d ≡ Some xs → (d ≡ list_by value xs) × Each P xs
  list-told (array items) xs is = let back = items-told items xs is in (ap array back.0, back.1)
  list-told (number n) xs is = absurd cc
  list-told null xs is = absurd cc
  list-told (boolean b) xs is = absurd cc
  list-told (string s) xs is = absurd cc
  list-told (object _) xs is = absurd cc

and-then-told : {A B : Type 0} (f : A → Option B) (o : Option A) {b : B} → option_and_then f o ≡ Some b
    → (a : A) × (o ≡ Some a) × (f a ≡ Some b)
and-then-told f None is = absurd cc
and-then-told f (Some a) is = (a, refl, is)

edge-of-told : (ns : List ℕ) (edge : Edge) → edge_of ns ≡ Some edge → ns ≡ edge_numbers edge
edge-of-told [] edge is = absurd cc
edge-of-told (a ∷ []) edge is = absurd cc
edge-of-told (a ∷ b ∷ []) edge is = absurd cc
edge-of-told (a ∷ b ∷ w ∷ []) edge is = ap edge_numbers (same_some is)
edge-of-told (a ∷ b ∷ w ∷ more ∷ ns) edge is = absurd cc

edge-told : (d : Data) (edge : Edge) → edge_in d ≡ Some edge → (d ≡ edge_value edge) × IsSmallEdge edge
edge-told d edge is =
    let parts = and-then-told edge_of (list_in number_in d) is in
    let told = list-told number_in whole IsSmall number-told d parts.0 parts.1 in
    let same = edge-of-told parts.0 edge parts.2 in
    (told.0 ∙ ap wholes same, subst (Each IsSmall) same told.1)

-- a word and numbers are those of a call
abbrev AreOf : List ℕ → List ℕ → ActorCall → Type 0
AreOf word ns call = (word ≡ (word_and_numbers call.actor call.call).0) × (ns ≡ call_numbers call)

move-told : (word ns : List ℕ) (call : ActorCall) → word ≡ codes "move" → move_of ns ≡ Some call → AreOf word ns call
move-told word [] call named is = absurd cc
move-told word (a ∷ []) call named is = absurd cc
move-told word (a ∷ to ∷ []) call named is = subst (AreOf word (a ∷ to ∷ [])) (same_some is) (named, refl)
move-told word (a ∷ to ∷ more ∷ ns) call named is = absurd cc

find-told : (word ns : List ℕ) (call : ActorCall) → word ≡ codes "find" → find_of ns ≡ Some call → AreOf word ns call
find-told word [] call named is = absurd cc
find-told word (a ∷ []) call named is = absurd cc
find-told word (a ∷ from ∷ []) call named is = absurd cc
find-told word (a ∷ from ∷ sub ∷ []) call named is =
    subst (AreOf word (a ∷ from ∷ sub ∷ [])) (same_some is) (named, refl)
find-told word (a ∷ from ∷ sub ∷ more ∷ ns) call named is = absurd cc

off-told : (word ns : List ℕ) (call : ActorCall) → word ≡ codes "off" → switch_of calls.Off ns ≡ Some call
    → AreOf word ns call
off-told word [] call named is = absurd cc
off-told word (a ∷ []) call named is = subst (AreOf word (a ∷ [])) (same_some is) (named, refl)
off-told word (a ∷ more ∷ ns) call named is = absurd cc

on-told : (word ns : List ℕ) (call : ActorCall) → word ≡ codes "on" → switch_of calls.On ns ≡ Some call
    → AreOf word ns call
on-told word [] call named is = absurd cc
on-told word (a ∷ []) call named is = subst (AreOf word (a ∷ [])) (same_some is) (named, refl)
on-told word (a ∷ more ∷ ns) call named is = absurd cc

spoken-told : (word ns : List ℕ) (call : ActorCall) (move find off on : Bool) → bytes_eq word (codes "move") ≡ move
    → bytes_eq word (codes "find") ≡ find → bytes_eq word (codes "off") ≡ off → bytes_eq word (codes "on") ≡ on
    → (if move then move_of ns else (if find then find_of ns else (if off then switch_of calls.Off ns else
    (if on then switch_of calls.On ns else None)))) ≡ Some call → AreOf word ns call
spoken-told word ns call true find off on m f o n is =
    move-told word ns call ((bytes_eq-Decides word (codes "move")).0 m) is
spoken-told word ns call false true off on m f o n is =
    find-told word ns call ((bytes_eq-Decides word (codes "find")).0 f) is
spoken-told word ns call false false true on m f o n is =
    off-told word ns call ((bytes_eq-Decides word (codes "off")).0 o) is
spoken-told word ns call false false false true m f o n is =
    on-told word ns call ((bytes_eq-Decides word (codes "on")).0 n) is
spoken-told word ns call false false false false m f o n is = absurd cc

word-told : (d : Data) (word : List ℕ) → as_str d ≡ Some word → d ≡ string word
word-told (string s) word is = ap string (same_some is)
word-told null word is = absurd cc
word-told (boolean b) word is = absurd cc
word-told (number n) word is = absurd cc
word-told (array items) word is = absurd cc
word-told (object _) word is = absurd cc

bind-told : {A B : Type 0} (o : Option A) (f : A → Option B) {b : B} → (o >>= f) ≡ Some b
    → (a : A) × (o ≡ Some a) × (f a ≡ Some b)
bind-told None f is = absurd cc
bind-told (Some a) f is = (a, refl, is)

call-told : (d : Data) (call : ActorCall) → call_in d ≡ Some call → (d ≡ call_value call) × IsSmallSpoken call
call-told (array no_items) call is = absurd cc
call-told (array (item d items)) call is =
    let word = bind-told (as_str d) (λ (w : List ℕ). each_in number_in items >>= (λ (ns : List ℕ). call_of w ns)) is in
    let numbers = bind-told (each_in number_in items) (λ (ns : List ℕ). call_of word.0 ns) word.2 in
    let told = items-told number_in whole IsSmall number-told items numbers.0 numbers.1 in
    let row_is = spoken-told word.0 numbers.0 call (bytes_eq word.0 (codes "move")) (bytes_eq word.0 (codes "find"))
    (bytes_eq word.0 (codes "off")) (bytes_eq word.0 (codes "on")) refl refl refl refl numbers.2 in (
      ap (λ (e : Data). array (item e items)) (word-told d word.0 word.1)
          ∙ ap (λ (l : Items). array (item (string word.0) l)) told.0
          ∙ ap (λ (w : List ℕ). row w numbers.0) row_is.0
          ∙ ap (λ (ns : List ℕ). row (word_and_numbers call.actor call.call).0 ns) row_is.1,
      subst (Each IsSmall) row_is.1 told.1,
    )
call-told null call is = absurd cc
call-told (boolean b) call is = absurd cc
call-told (number n) call is = absurd cc
call-told (string s) call is = absurd cc
call-told (object _) call is = absurd cc

named-told : (name key : List ℕ) (value : Data) (rest : Members) (found : Data × Members) (b : Bool)
    → bytes_eq name key ≡ b → (if b then Some (value, rest) else None) ≡ Some found
    → member name value rest ≡ member key found.0 found.1
named-told name key value rest found true test is =
    ap (λ (k : List ℕ). member k value rest) ((bytes_eq-Decides name key).0 test)
    ∙ ap (λ (p : Data × Members). member key p.0 p.1) (same_some is)
named-told name key value rest found false test is = absurd cc

next-told : (key : List ℕ) (members : Members) (found : Data × Members) → next_member key members ≡ Some found
    → members ≡ member key found.0 found.1
next-told key no_members found is = absurd cc
next-told key (member name value rest) found is =
    named-told name key value rest found (bytes_eq name key) refl is

-- the members of an object, up to those behind the key `k`
abbrev members_from : Data → Data → Data → Data → Members → Members
members_from callers spoken edges k rest =
    member (codes "callers") callers (member (codes "calls") spoken (member (codes "edges") edges
    (member (codes "k") k rest)))

-- the members after them, with those that the order adds
abbrev members_to : (Members → Members) → Data → Data → Data → Members
members_to with_order nodes subs track =
    member (codes "nodes") nodes
    (with_order (member (codes "subs") subs (member (codes "track") track no_members)))

-- the members of an object's values
abbrev members_with : (Members → Members) → InputValues → Members
members_with with_order values =
    members_from values.callers values.calls values.edges values.k
    (members_to with_order values.nodes values.subs values.track)

-- there is an order, or none
abbrev AreWith : ((Members → Members) → Type 0) → Data → Type 0
AreWith P order = P (member (codes "order") order) ⊎ ((order ≡ array no_items) × P (λ members. members))

order-told : (rest : Members) (o : Option (Data × Members)) → next_member (codes "order") rest ≡ o
    → AreWith (λ with_order. rest ≡ with_order (unwrap_or o (array no_items, rest)).1)
    (unwrap_or o (array no_items, rest)).0
order-told rest None is = inr (refl, refl)
order-told rest (Some found) is = inl (next-told (codes "order") rest found is)

if-all-told : (members : Members) (one : InputValues) {other : InputValues} → if_all members one ≡ Some other
    → (members ≡ no_members) × (one ≡ other)
if-all-told no_members one is = (refl, same_some is)
if-all-told (member name value rest) one is = absurd cc

rest-told : (callers spoken edges k : Data) (rest : Members) (values : InputValues)
    → values_from callers spoken edges k rest ≡ Some values
    → AreWith (λ with_order. members_from callers spoken edges k rest ≡ members_with with_order values) values.order
rest-told callers spoken edges k rest values is =
    let kept : Data → Data → Data → Data → InputValues = λ nodes order subs track. record {
      callers = callers;
      calls = spoken;
      edges = edges;
      k = k;
      nodes = nodes;
      order = order;
      subs = subs;
      track = track;
    } in
    let nodes = bind-told (next_member (codes "nodes") rest) (λ (n : Data × Members).
    next_member (codes "subs") (order_member n.1).1 >>= (λ (s : Data × Members).
    next_member (codes "track") s.1 >>= (λ (t : Data × Members).
    if_all t.1 (kept n.0 (order_member n.1).0 s.0 t.0)))) is in
    let ordered = order_member nodes.0.1 in
    let subs = bind-told (next_member (codes "subs") ordered.1) (λ (s : Data × Members).
    next_member (codes "track") s.1 >>= (λ (t : Data × Members). if_all t.1 (kept nodes.0.0 ordered.0 s.0 t.0)))
    nodes.2 in
    let track = bind-told (next_member (codes "track") subs.0.1) (λ (t : Data × Members).
    if_all t.1 (kept nodes.0.0 ordered.0 subs.0.0 t.0)) subs.2 in
    let ends = if-all-told track.0.1 (kept nodes.0.0 ordered.0 subs.0.0 track.0.0) track.2 in
    let tail : ordered.1 ≡ member (codes "subs") subs.0.0 (member (codes "track") track.0.0 no_members) =
    next-told (codes "subs") ordered.1 subs.0 subs.1
    ∙ ap (λ (m : Members). member (codes "subs") subs.0.0 m) (next-told (codes "track") subs.0.1 track.0 track.1
    ∙ ap (λ (m : Members). member (codes "track") track.0.0 m) ends.0) in
    let joined : (with_order : Members → Members) → nodes.0.1 ≡ with_order ordered.1
    → members_from callers spoken edges k rest
    ≡ members_from callers spoken edges k (members_to with_order nodes.0.0 subs.0.0 track.0.0) =
    λ with_order same. ap (λ (m : Members). members_from callers spoken edges k m)
    (next-told (codes "nodes") rest nodes.0 nodes.1
    ∙ ap (λ (m : Members). member (codes "nodes") nodes.0.0 m) (same ∙ ap with_order tail)) in
    subst (λ (v : InputValues).
    AreWith (λ with_order. members_from callers spoken edges k rest ≡ members_with with_order v) v.order) ends.1
    (elim (order-told nodes.0.1 (next_member (codes "order") nodes.0.1) refl) [
      | inl e ↦ inl (joined (member (codes "order") ordered.0) e)
      | inr e ↦ inr (e.0, joined (λ members. members) e.1)
    ])

values-told : (members : Members) (values : InputValues) → values_of members ≡ Some values
    → AreWith (λ with_order. members ≡ members_with with_order values) values.order
values-told members values is =
    let callers = bind-told (next_member (codes "callers") members) (λ (c : Data × Members).
    next_member (codes "calls") c.1 >>= (λ (l : Data × Members). next_member (codes "edges") l.1 >>=
    (λ (e : Data × Members). next_member (codes "k") e.1 >>=
    (λ (k : Data × Members). values_from c.0 l.0 e.0 k.0 k.1)))) is in
    let spoken = bind-told (next_member (codes "calls") callers.0.1) (λ (l : Data × Members).
    next_member (codes "edges") l.1 >>= (λ (e : Data × Members). next_member (codes "k") e.1 >>=
    (λ (k : Data × Members). values_from callers.0.0 l.0 e.0 k.0 k.1))) callers.2 in
    let edges = bind-told (next_member (codes "edges") spoken.0.1) (λ (e : Data × Members).
    next_member (codes "k") e.1 >>= (λ (k : Data × Members). values_from callers.0.0 spoken.0.0 e.0 k.0 k.1))
    spoken.2 in
    let k = bind-told (next_member (codes "k") edges.0.1)
    (λ (k : Data × Members). values_from callers.0.0 spoken.0.0 edges.0.0 k.0 k.1) edges.2 in
    let front : members ≡ members_from callers.0.0 spoken.0.0 edges.0.0 k.0.0 k.0.1 =
    next-told (codes "callers") members callers.0 callers.1
    ∙ ap (λ (m : Members). member (codes "callers") callers.0.0 m)
    (next-told (codes "calls") callers.0.1 spoken.0 spoken.1
    ∙ ap (λ (m : Members). member (codes "calls") spoken.0.0 m)
    (next-told (codes "edges") spoken.0.1 edges.0 edges.1
    ∙ ap (λ (m : Members). member (codes "edges") edges.0.0 m) (next-told (codes "k") edges.0.1 k.0 k.1))) in
    subst (λ (m : Members). AreWith (λ with_order. m ≡ members_with with_order values) values.order) (sym front)
    (rest-told callers.0.0 spoken.0.0 edges.0.0 k.0.0 k.0.1 values k.2)

-- a listing of its parts, as far as they are there
abbrev listing_if : Option ℕ → Option ℕ → Option ℕ → Option (List Edge) → Option (List ℕ) → Option ℕ
    → Option (List ActorCall) → Option (List ℕ) → Option ListingValue
listing_if format nodes k edges homes callers spoken order =
    format >>= (λ f. nodes >>= (λ n. k >>= (λ t. edges >>= (λ e. homes >>= (λ h. callers >>= (λ c. spoken >>= (λ l.
    order >>= (λ o. Some (record {
      format = f;
      nodes = n;
      k = t;
      edges = e;
      homes = h;
      callers = c;
      calls = l;
      order = o;
    })))))))))

parts-told : (format nodes k : Option ℕ) (edges : Option (List Edge)) (homes : Option (List ℕ)) (callers : Option ℕ)
    (spoken : Option (List ActorCall)) (order : Option (List ℕ)) (listing : ListingValue)
    → listing_if format nodes k edges homes callers spoken order ≡ Some listing
    → (format ≡ Some listing.format) × (nodes ≡ Some listing.nodes) × (k ≡ Some listing.k)
    × (edges ≡ Some listing.edges) × (homes ≡ Some listing.homes) × (callers ≡ Some listing.callers)
    × (spoken ≡ Some listing.calls) × (order ≡ Some listing.order)
parts-told (Some f) (Some n) (Some k) (Some e) (Some h) (Some c) (Some l) (Some o) listing is =
    let same = same_some is in (
      ap (λ (x : ListingValue). Some x.format) same,
      ap (λ (x : ListingValue). Some x.nodes) same,
      ap (λ (x : ListingValue). Some x.k) same,
      ap (λ (x : ListingValue). Some x.edges) same,
      ap (λ (x : ListingValue). Some x.homes) same,
      ap (λ (x : ListingValue). Some x.callers) same,
      ap (λ (x : ListingValue). Some x.calls) same,
      ap (λ (x : ListingValue). Some x.order) same,
    )
parts-told None nodes k edges homes callers spoken order listing is = absurd cc
parts-told (Some f) None k edges homes callers spoken order listing is = absurd cc
parts-told (Some f) (Some n) None edges homes callers spoken order listing is = absurd cc
parts-told (Some f) (Some n) (Some k) None homes callers spoken order listing is = absurd cc
parts-told (Some f) (Some n) (Some k) (Some e) None callers spoken order listing is = absurd cc
parts-told (Some f) (Some n) (Some k) (Some e) (Some h) None spoken order listing is = absurd cc
parts-told (Some f) (Some n) (Some k) (Some e) (Some h) (Some c) None order listing is = absurd cc
parts-told (Some f) (Some n) (Some k) (Some e) (Some h) (Some c) (Some l) None listing is = absurd cc

joined : (with_order : Members → Members) {callers spoken edges k nodes subs track : Data} (listing : ListingValue)
    → callers ≡ whole listing.callers → spoken ≡ list_by call_value listing.calls
    → edges ≡ list_by edge_value listing.edges → k ≡ whole listing.k → nodes ≡ whole listing.nodes
    → subs ≡ wholes listing.homes → track ≡ whole listing.format
    → object (members_from callers spoken edges k (members_to with_order nodes subs track))
    ≡ value_with with_order listing
joined with_order listing a b c d e f g = rw (a, b, c, d, e, f, g) refl

taken-told : (value : Data) (listing : ListingValue) → listing_in value ≡ Some listing → TellsListing value listing
taken-told (object members) listing is =
    let found = bind-told (values_of members) listing_of_values is in
    let values = found.0 in
    let parts = parts-told (number_in values.track) (number_in values.nodes) (number_in values.k)
    (list_in edge_in values.edges) (list_in number_in values.subs) (number_in values.callers)
    (list_in call_in values.calls) (list_in number_in values.order) listing found.2 in
    let format = number-told values.track listing.format parts.0 in
    let nodes = number-told values.nodes listing.nodes parts.1 in
    let k = number-told values.k listing.k parts.2 in
    let edges = list-told edge_in edge_value IsSmallEdge edge-told values.edges listing.edges parts.3 in
    let homes = list-told number_in whole IsSmall number-told values.subs listing.homes parts.4 in
    let callers = number-told values.callers listing.callers parts.5 in
    let spoken = list-told call_in call_value IsSmallSpoken call-told values.calls listing.calls parts.6 in
    let order = list-told number_in whole IsSmall number-told values.order listing.order parts.7 in
    let same : (with_order : Members → Members) → members ≡ members_with with_order values
    → object members ≡ value_with with_order listing =
    λ with_order is. ap object is
    ∙ joined with_order listing callers.0 spoken.0 edges.0 k.0 nodes.0 homes.0 format.0 in
    record {
      short = listing-short (record {
        format = format.1;
        nodes = nodes.1;
        k = k.1;
        edges = edges.1;
        homes = homes.1;
        callers = callers.1;
        spoken = spoken.1;
        order = order.1;
      });
      tells = elim (values-told members values found.1) [
        | inl e ↦ inl (same (member (codes "order") values.order) e
            ∙ ap (λ (o : Data). value_with (member (codes "order") o) listing) order.0)
        | inr e ↦ inr (
          same_some (sym parts.7 ∙ ap (λ (o : Data). list_in number_in o) e.0),
          same (λ members. members) e.1,
        )
      ];
    }
taken-told null listing is = absurd cc
taken-told (boolean b) listing is = absurd cc
taken-told (number n) listing is = absurd cc
taken-told (string s) listing is = absurd cc
taken-told (array items) listing is = absurd cc

pub shapes-taken : ShapesAreTaken
shapes-taken value listing = (taken-told value listing, told-taken)

-- ---- what examples tell

pub brief-told : TellsListing (lone_value (whole 1) no_members) (lone_listing 1)
brief-told = taken-told (lone_value (whole 1) no_members) (lone_listing 1) refl

pub full-told : TellsListing (listing_value (lone_listing 1)) (lone_listing 1)
full-told = taken-told (listing_value (lone_listing 1)) (lone_listing 1) refl

pub order-untold : TellsListing (lone_value (whole 1) no_members) (record (lone_listing 1) { order = 0 ∷ [] }) → ⊥
order-untold told =
    let same : Some (lone_listing 1) ≡ Some (record (lone_listing 1) { order = 0 ∷ [] }) = told-taken told in
    let orders = ap (λ (l : ListingValue). l.order) (same_some same) in absurd cc

pub long-untold : TellsListing (lone_value (whole 1000000000000000000) no_members) (lone_listing 1000000000000000000)
    → ⊥
long-untold told =
    let same : None ≡ Some (lone_listing 1000000000000000000) = told-taken told in absurd cc

pub none-told : {value : Data} → listing_in value ≡ None → (listing : ListingValue) → TellsListing value listing → ⊥
none-told none listing told = let some = told-taken told in let both = sym none ∙ some in cc

-- ---- what bytes tell

pub one-listing : OneListing
one-listing bytes one other first second =
    let same = same_some (sym first.json.reads ∙ second.json.reads) in
    same_some (sym (told-taken first.shape) ∙ ap listing_in same ∙ told-taken second.shape)

pub not-shapeless : (bytes : List ℕ) (listing : ListingValue) → IsListed bytes listing → IsShapeless bytes → ⊥
not-shapeless bytes listing listed bare =
    let same = same_some (sym listed.json.reads ∙ bare.json.reads) in
    bare.shape listing (subst (λ (v : Data). TellsListing v listing) same listed.shape)

pub not-refused : NotRefused
not-refused bytes listing listed = (
  λ no. let none = sym (no listed.json.utf8) ∙ listed.json.reads in cc,
  λ bare. not-shapeless bytes listing listed bare,
)
