-- The JSON of an input: an object whose keys ascend. Edges are triples, and each call is a row that
-- begins with its word.
-- Key laws: `input_json` (it writes this value), `inputs_return` (what it writes has this shape,
-- and makes the text of the input again), `example_input` (computed).
use Rattle.std.specs.Prelude.{ℕ, List, [], ◌∷◌, codes}
use Rattle.net_graph.specs.declared.edge.Edge.{Edge}
use Rattle.net_reader.specs.declared.said.Call.{Call}
use Rattle.net_reader.specs.declared.said.Call.TheVariants as calls
use Rattle.net_reader.specs.Input.{Contents}
use Rattle.input_text.specs.declared.listing.ActorCall.{ActorCall}
use Rattle.input_text.specs.Listing.{ListingValue, listing_of}
use Rattle.serde_json.specs.Data.{Data, Members, member, no_members, object}
use Rattle.json_form.specs.Values.{line_of_value, list_by, row, whole, wholes}

-- the numbers of an edge: its ends and its weight
abbrev pub edge_numbers : Edge → List ℕ
edge_numbers edge = edge.a ∷ edge.b ∷ edge.weight ∷ []

-- an edge
abbrev pub edge_value : Edge → Data
edge_value edge = wholes (edge_numbers edge)

-- the word of an actor's call, and its numbers
abbrev pub word_and_numbers : ℕ → Call → List ℕ × List ℕ
word_and_numbers actor (calls.Move to) = (codes "move", actor ∷ to ∷ [])
word_and_numbers actor (calls.Find from sub) = (codes "find", actor ∷ from ∷ sub ∷ [])
word_and_numbers actor calls.Off = (codes "off", actor ∷ [])
word_and_numbers actor calls.On = (codes "on", actor ∷ [])

-- the numbers of a call
abbrev pub call_numbers : ActorCall → List ℕ
call_numbers call = (word_and_numbers call.actor call.call).1

-- a call
abbrev pub call_value : ActorCall → Data
call_value call = row (word_and_numbers call.actor call.call).0 (call_numbers call)

-- the value of a listing, with the members that its order adds
abbrev pub value_with : (Members → Members) → ListingValue → Data
value_with with_order listing =
    object
    (member (codes "callers") (whole listing.callers)
    (member (codes "calls") (list_by call_value listing.calls)
    (member (codes "edges") (list_by edge_value listing.edges)
    (member (codes "k") (whole listing.k)
    (member (codes "nodes") (whole listing.nodes)
    (with_order
    (member (codes "subs") (wholes listing.homes)
    (member (codes "track") (whole listing.format)
    no_members))))))))

-- the value of a listing
abbrev pub listing_value : ListingValue → Data
listing_value listing = value_with (member (codes "order") (wholes listing.order)) listing

-- the JSON of an input, whose calls stand by actor and within an actor in script order
abbrev pub input_json_of : Contents → List ℕ
input_json_of contents = line_of_value (listing_value (listing_of contents))
