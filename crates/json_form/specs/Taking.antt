-- What the code follows when it takes a value apart: it looks for each key in its turn, and for the
-- count of each row's numbers. It takes a listing out of just what tells that listing (Shapes).
-- Key law: `shapes_are_taken`.
use Rattle.std.specs.Prelude.{ℕ, List, [], ◌∷◌, Option, Some, None, nat_le, if◌then◌else◌, codes, option_and_then, unwrap_or}
use Rattle.std.specs.Str.{bytes_eq}
use Rattle.net_graph.specs.declared.edge.Edge.{Edge}
use Rattle.net_reader.specs.declared.said.Call.{Call}
use Rattle.net_reader.specs.declared.said.Call.TheVariants as calls
use Rattle.input_text.specs.declared.listing.ActorCall.{ActorCall}
use Rattle.input_text.specs.Listing.{ListingValue}
use Rattle.serde_json.specs.Data.{Data, Items, Members, array, item, member, no_items, no_members}
use Rattle.serde_json.specs.Find.{as_array, as_number, as_object, as_str, as_u64}
use Rattle.word_line.specs.Forms.{◌>>=◌}
use Rattle.json_form.specs.Shapes.{most_number}

-- the number, where it is within its limit
abbrev pub within_most : ℕ → Option ℕ
within_most n = if nat_le n most_number then Some n else None

-- a number
abbrev pub number_in : Data → Option ℕ
number_in value = option_and_then within_most (option_and_then as_u64 (as_number value))

-- each item, read in this way
abbrev pub each_in : {A : Type 0} → (Data → Option A) → Items → Option (List A)
each_in read no_items = Some []
each_in read (item value items) = do
  one ← read value
  others ← each_in read items
  Some (one ∷ others)

-- each item of a list, read in this way
abbrev pub list_in : {A : Type 0} → (Data → Option A) → Data → Option (List A)
list_in read value = option_and_then (each_in read) (as_array value)

-- the edge of these numbers: its ends and its weight
abbrev pub edge_of : List ℕ → Option Edge
edge_of [] = None
edge_of (a ∷ []) = None
edge_of (a ∷ b ∷ []) = None
edge_of (a ∷ b ∷ weight ∷ []) = Some (record { a = a; b = b; weight = weight })
edge_of (a ∷ b ∷ weight ∷ more ∷ numbers) = None

-- an edge
abbrev pub edge_in : Data → Option Edge
edge_in value = option_and_then edge_of (list_in number_in value)

-- a move: an actor and a node
abbrev pub move_of : List ℕ → Option ActorCall
move_of [] = None
move_of (actor ∷ []) = None
move_of (actor ∷ to ∷ []) = Some (record { actor = actor; call = calls.Move to })
move_of (actor ∷ to ∷ more ∷ numbers) = None

-- a find: an actor, a node and a subscriber
abbrev pub find_of : List ℕ → Option ActorCall
find_of [] = None
find_of (actor ∷ []) = None
find_of (actor ∷ from ∷ []) = None
find_of (actor ∷ from ∷ sub ∷ []) = Some (record { actor = actor; call = calls.Find from sub })
find_of (actor ∷ from ∷ sub ∷ more ∷ numbers) = None

-- a switch: an actor
abbrev pub switch_of : Call → List ℕ → Option ActorCall
switch_of call [] = None
switch_of call (actor ∷ []) = Some (record { actor = actor; call = call })
switch_of call (actor ∷ more ∷ numbers) = None

-- the call of this word and these numbers
abbrev pub call_of : List ℕ → List ℕ → Option ActorCall
call_of word numbers =
    if bytes_eq word (codes "move") then move_of numbers else
    (if bytes_eq word (codes "find") then find_of numbers else
    (if bytes_eq word (codes "off") then switch_of calls.Off numbers else
    (if bytes_eq word (codes "on") then switch_of calls.On numbers else None)))

-- the call of these items: a word, and numbers
abbrev pub call_of_items : Items → Option ActorCall
call_of_items no_items = None
call_of_items (item value items) = do
  word ← as_str value
  numbers ← each_in number_in items
  call_of word numbers

-- a call
abbrev pub call_in : Data → Option ActorCall
call_in value = option_and_then call_of_items (as_array value)

-- the value of this key, where it is that of the first member, and the members after it
abbrev pub next_member : List ℕ → Members → Option (Data × Members)
next_member key no_members = None
next_member key (member name value rest) =
    if bytes_eq name key then Some (value, rest) else None

-- the order, where it is the first member, else an empty list; and the members after it
abbrev pub order_member : Members → Data × Members
order_member members = unwrap_or (next_member (codes "order") members) (array no_items, members)

-- the values of an object's keys
pub record InputValues : Type 0 where
  pub callers : Data
  pub calls : Data
  pub edges : Data
  pub k : Data
  pub nodes : Data
  pub order : Data
  pub subs : Data
  pub track : Data

-- they, where no member is left
abbrev pub if_all : Members → InputValues → Option InputValues
if_all no_members values = Some values
if_all (member name value rest) values = None

-- the values, where the members have exactly the keys after the first four, whose values these are
abbrev pub values_from : Data → Data → Data → Data → Members → Option InputValues
values_from callers calls edges k members = do
  nodes ← next_member (codes "nodes") members
  subs ← next_member (codes "subs") (order_member nodes.1).1
  track ← next_member (codes "track") subs.1
  if_all track.1 (record {
    callers = callers;
    calls = calls;
    edges = edges;
    k = k;
    nodes = nodes.0;
    order = (order_member nodes.1).0;
    subs = subs.0;
    track = track.0;
  })

-- the values, where the members have exactly these keys; they ascend in each object that is read
abbrev pub values_of : Members → Option InputValues
values_of members = do
  callers ← next_member (codes "callers") members
  calls ← next_member (codes "calls") callers.1
  edges ← next_member (codes "edges") calls.1
  k ← next_member (codes "k") edges.1
  values_from callers.0 calls.0 edges.0 k.0 k.1

-- the listing that these values are
abbrev pub listing_of_values : InputValues → Option ListingValue
listing_of_values values = do
  format ← number_in values.track
  nodes ← number_in values.nodes
  k ← number_in values.k
  edges ← list_in edge_in values.edges
  homes ← list_in number_in values.subs
  callers ← number_in values.callers
  calls ← list_in call_in values.calls
  order ← list_in number_in values.order
  Some (record {
    format = format;
    nodes = nodes;
    k = k;
    edges = edges;
    homes = homes;
    callers = callers;
    calls = calls;
    order = order;
  })

-- the listing that a value is, where it has the shape
abbrev pub listing_in : Data → Option ListingValue
listing_in value = do
  members ← as_object value
  values ← values_of members
  listing_of_values values
