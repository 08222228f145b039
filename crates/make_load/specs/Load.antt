-- The input that a load makes, draw by draw, and its text. Key laws: `Workload::new` and
-- `load_text` (they make it), `loads_read` (its text reads as this input), `example_loads`
-- and `example_formats` (computed).
use Rattle.std.specs.Prelude.{◌≡◌, ℕ, zero, suc, ◌+◌, ◌-◌, ◌*◌, ◌/◌, ◌%◌, ◌<◌, ◌≤◌, ◌^◌, Bool, true, List, [], ◌∷◌, ◌++◌, nat_le, nat_lt, ◌==◌, ◌&&◌, ◌||◌, if◌then◌else◌, slice_index, slice_set}
use Rattle.net_graph.specs.declared.edge.Edge.{Edge}
use Rattle.net_graph.specs.Walks.{make_edge}
use Rattle.net_reader.specs.declared.said.Call.TheVariants as calls
use Rattle.net_reader.specs.Input.{Contents}
use Rattle.rand_pcg.specs.Lcg.{Lcg}
use Rattle.word_line.specs.declared.load.Load.{Load}
use Rattle.word_line.specs.Forms.{is_sound}
use Rattle.input_text.specs.declared.listing.ActorCall.{ActorCall}
use Rattle.input_text.specs.Listing.{ListingValue, contents_in, listing_text}
use Rattle.make_load.specs.Draws.{Drawn, draw, draw_list, draws_below, generator_of}

-- the measures of a load are within the limits of the words that tell them
pub record IsLoad (load : Load) : Type 0 where
  pub start : load.start < 10 ^ 18
  pub some_nodes : 1 ≤ load.nodes
  pub few_nodes : load.nodes ≤ 1024
  pub some_k : 1 ≤ load.k
  pub few_k : load.k ≤ 8
  pub some_subs : 1 ≤ load.subs
  pub few_subs : load.subs ≤ 64
  pub few_callers : load.callers ≤ 64
  pub few_calls : load.calls ≤ 16384
  pub sound : is_sound load ≡ true

-- the format: the second one where the first has too few nodes or calls
abbrev pub format_of : Load → ℕ
format_of load = if nat_le load.nodes 256 && nat_le load.calls 8192 then 1 else 2

-- an edge of a drawn weight, 1 to 16
abbrev pub weighted_edge : ℕ → ℕ → Lcg → Drawn Edge
weighted_edge a b generator = record {
  value = make_edge a b (1 + (draw 16 generator).value);
  left = (draw 16 generator).left;
}

-- the edge of a tree that joins node v to its parent
abbrev pub tree_edge : ℕ → Lcg → Drawn Edge
tree_edge v generator = weighted_edge ((v - 1) / 2) v generator

-- an edge between two drawn nodes of n
abbrev pub other_edge : ℕ → ℕ → Lcg → Drawn Edge
other_edge n number generator =
    weighted_edge (draw n generator).value (draw n (draw n generator).left).value
    (draw n (draw n generator).left).left

-- a call that was drawn, where each subscriber is behind it, and the generator behind it
pub record DrawnCall : Type 0 where
  pub call : ActorCall
  pub places : List ℕ
  pub left : Lcg

-- where a subscriber goes to: so many nodes past the next one
abbrev pub target_of : ℕ → ℕ → ℕ → ℕ
target_of n place far = (place + 1 + far) % n

-- a move of a drawn subscriber to a drawn node that isn't its place
abbrev pub move_to : Load → List ℕ → ℕ → Drawn ℕ → DrawnCall
move_to load places sub far = record {
  call = record {
    actor = sub;
    call = calls.Move (target_of load.nodes (slice_index places sub) far.value);
  };
  places = slice_set places sub (target_of load.nodes (slice_index places sub) far.value);
  left = far.left;
}

-- a drawn move
abbrev pub drawn_move : Load → List ℕ → Lcg → DrawnCall
drawn_move load places generator =
    move_to load places (draw load.subs generator).value
    (draw (load.nodes - 1) (draw load.subs generator).left)

-- a find of a drawn caller, from a drawn node, for a drawn subscriber
abbrev pub find_by : Load → List ℕ → Drawn ℕ → DrawnCall
find_by load places caller = record {
  call = record {
    actor = load.subs + caller.value;
    call = calls.Find (draw load.nodes caller.left).value
        (draw load.subs (draw load.nodes caller.left).left).value;
  };
  places = places;
  left = (draw load.subs (draw load.nodes caller.left).left).left;
}

-- a drawn find
abbrev pub drawn_find : Load → List ℕ → Lcg → DrawnCall
drawn_find load places generator = find_by load places (draw load.callers generator)

-- whether call j is a move: there is another node to go to, and j is even or there is no caller
abbrev pub is_move : Load → ℕ → Bool
is_move load j = nat_lt 1 load.nodes && (j % 2 == 0 || load.callers == 0)

-- call j
abbrev pub drawn_call : Load → ℕ → List ℕ → Lcg → DrawnCall
drawn_call load j places generator =
    if is_move load j then drawn_move load places generator else drawn_find load places generator

-- so many calls from call j on
abbrev pub drawn_calls : Load → ℕ → ℕ → List ℕ → Lcg → Drawn (List ActorCall)
drawn_calls load j zero places generator = record { value = []; left = generator }
drawn_calls load j (suc count) places generator = record {
  value = (drawn_call load j places generator).call
      ∷ (drawn_calls load (j + 1) count (drawn_call load j places generator).places
      (drawn_call load j places generator).left).value;
  left = (drawn_calls load (j + 1) count (drawn_call load j places generator).places
      (drawn_call load j places generator).left).left;
}

-- first the edges of a tree over all nodes are drawn, one to the parent of each node but 0
abbrev pub tree_of : Load → Drawn (List Edge)
tree_of load = draw_list tree_edge 1 (load.nodes - 1) (generator_of load.start)

-- then half as many other edges as there are nodes
abbrev pub others_of : Load → Drawn (List Edge)
others_of load = draw_list (other_edge load.nodes) 0 (load.nodes / 2) (tree_of load).left

-- then a node where each subscriber starts
abbrev pub homes_of : Load → Drawn (List ℕ)
homes_of load = draws_below load.nodes load.subs (others_of load).left

-- then the calls, each subscriber being where it starts before its first one
abbrev pub calls_of : Load → Drawn (List ActorCall)
calls_of load = drawn_calls load 0 load.calls (homes_of load).value (homes_of load).left

-- and then eight turns for each call
abbrev pub order_of : Load → Drawn (List ℕ)
order_of load = draws_below (load.subs + load.callers) (8 * load.calls) (calls_of load).left

-- the input that a load makes, with its calls in the order in which they were drawn
abbrev pub listing_of : Load → ListingValue
listing_of load = record {
  format = format_of load;
  nodes = load.nodes;
  k = load.k;
  edges = (tree_of load).value ++ (others_of load).value;
  homes = (homes_of load).value;
  callers = load.callers;
  calls = (calls_of load).value;
  order = (order_of load).value;
}

-- the text of a load
abbrev pub load_text_of : Load → List ℕ
load_text_of load = listing_text (listing_of load)

-- the input of a load
abbrev pub load_contents : Load → Contents
load_contents load = contents_in (listing_of load)
