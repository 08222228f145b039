-- The text that says an input, line by line: one blank between fields, a line feed at the end of
-- each line. A listing is an input whose calls stand in the order of the text, whichever actors
-- make them. Key laws: `listings_read` and `inputs_read` (the text reads as the input),
-- `InputLines::next_line` and `input_text` (they write it), `example_texts` (computed).
use Rattle.std.specs.Prelude.{ℕ, ◌+◌, List, [], ◌∷◌, ◌++◌, map, codes}
use Rattle.std.specs.List.{concat}
use Rattle.net_graph.specs.declared.edge.Edge.{Edge}
use Rattle.net_reader.specs.declared.said.Call.{Call}
use Rattle.net_reader.specs.declared.said.Call.TheVariants as calls
use Rattle.net_reader.specs.declared.said.Spoken.{Spoken}
use Rattle.net_reader.specs.Input.{Contents, contents_of}
use Rattle.net_reader.specs.Said.{Said}
use Rattle.input_text.specs.declared.listing.ActorCall.{ActorCall}
use Rattle.outside.specs.Texts.{◌then◌, fields}
use Rattle.text_line.specs.OrderLines.{order_lines}

-- an input, with its calls in the order of its text
pub record ListingValue : Type 0 where
  pub format : ℕ
  pub nodes : ℕ
  pub k : ℕ
  pub edges : List Edge
  pub homes : List ℕ
  pub callers : ℕ
  pub calls : List ActorCall
  pub order : List ℕ

-- a call, as the reader of inputs keeps it
abbrev pub spoken_of : ActorCall → Spoken
spoken_of call = record { actor = call.actor; call = call.call }

-- what is said by the listing, up to a place of the grammar
abbrev pub said_of : ℕ → ListingValue → Said
said_of place listing = record {
  place = place;
  format = listing.format;
  nodes = listing.nodes;
  k = listing.k;
  edges = listing.edges;
  homes = listing.homes;
  callers = listing.callers;
  calls = map spoken_of listing.calls;
  order = listing.order;
}

-- the input that is listed: each actor's script has its calls in the order of the listing
abbrev pub contents_in : ListingValue → Contents
contents_in listing = contents_of (said_of 0 listing)

-- a line: its word, and its numbers
abbrev pub line_of : List ℕ → List ℕ → List ℕ
line_of word numbers = word then fields numbers then 10 ∷ []

-- the line of an edge
abbrev pub edge_line : Edge → List ℕ
edge_line edge = line_of (codes "edge") (edge.a ∷ edge.b ∷ edge.weight ∷ [])

-- the line of a subscriber that starts at this node
abbrev pub home_line : ℕ → List ℕ
home_line home = line_of (codes "sub") (home ∷ [])

-- the line of a call of an actor
abbrev pub line_of_call : ℕ → Call → List ℕ
line_of_call actor (calls.Move to) = line_of (codes "move") (actor ∷ to ∷ [])
line_of_call actor (calls.Find from sub) = line_of (codes "find") (actor ∷ from ∷ sub ∷ [])
line_of_call actor calls.Off = line_of (codes "off") (actor ∷ [])
line_of_call actor calls.On = line_of (codes "on") (actor ∷ [])

-- the line of a call
abbrev pub call_line : ActorCall → List ℕ
call_line call = line_of_call call.actor call.call

-- the lines after those of the network and its actors
abbrev pub call_lines : ListingValue → List (List ℕ)
call_lines listing = map call_line listing.calls ++ order_lines listing.order

-- the lines of the subscribers, and those after them
abbrev pub actor_lines : ListingValue → List (List ℕ)
actor_lines listing =
    map home_line listing.homes
    ++ line_of (codes "callers") (listing.callers ∷ []) ∷ call_lines listing

-- the lines of the edges, and those after them
abbrev pub network_lines : ListingValue → List (List ℕ)
network_lines listing = map edge_line listing.edges ++ actor_lines listing

-- the lines from that of k on
abbrev pub lines_from_k : ListingValue → List (List ℕ)
lines_from_k listing = line_of (codes "k") (listing.k ∷ []) ∷ network_lines listing

-- the lines from that of the nodes on
abbrev pub lines_from_nodes : ListingValue → List (List ℕ)
lines_from_nodes listing = line_of (codes "nodes") (listing.nodes ∷ []) ∷ lines_from_k listing

-- the lines of a listing
abbrev pub input_lines : ListingValue → List (List ℕ)
input_lines listing = line_of (codes "track") (listing.format ∷ []) ∷ lines_from_nodes listing

-- the text of a listing
abbrev pub listing_text : ListingValue → List ℕ
listing_text listing = concat (input_lines listing)

-- the calls of a script that is this actor's
abbrev pub calls_of : ℕ → List Call → List ActorCall
calls_of actor script = map (λ call. record { actor = actor; call = call }) script

-- the calls of scripts, by actor, from this one on
abbrev pub calls_from : ℕ → List (List Call) → List ActorCall
calls_from actor [] = []
calls_from actor (script ∷ scripts) = calls_of actor script ++ calls_from (actor + 1) scripts

-- the input with its calls by actor, and within an actor in script order
abbrev pub listing_of : Contents → ListingValue
listing_of contents = record {
  format = contents.format;
  nodes = contents.nodes;
  k = contents.k;
  edges = contents.edges;
  homes = contents.homes;
  callers = contents.callers;
  calls = calls_from 0 contents.scripts;
  order = contents.order;
}

-- the text of an input
abbrev pub input_text_of : Contents → List ℕ
input_text_of contents = listing_text (listing_of contents)
