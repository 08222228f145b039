-- What a load makes is listed as an input is.
use Rattle.std.proofs.Common.{◌≡◌, ◌≢◌, ◌⊎◌, inl, inr, ℕ, zero, suc, ◌+◌, ◌-◌, ◌*◌, ◌/◌, ◌<◌, ◌≤◌, Bool, true, false, cond, eqb, leb, ◌&&◌, ◌||◌, List, [], ◌∷◌, ◌++◌, map, length, length-append, All, get_or, refl, sym, ap, subst, ◌∙◌, arith}
use Rattle.std.proofs.lemmas.Bool.Decides.{nat_tests}
use Rattle.std.proofs.lemmas.List.{length-map}
use Rattle.std.proofs.lemmas.List.Elements.{All-append, Contains-append_left, Contains-append_right}
use Rattle.std.specs.List.{Contains}
use Rattle.rand_pcg.specs.Lcg.{Lcg}
use Rattle.net_graph.specs.declared.edge.Edge.{Edge}
use Rattle.net_graph.specs.Network.{IsEdge}
use Rattle.net_graph.specs.Walks.{IsReached, Step, everywhere, make_edge}
use Rattle.net_graph.specs.WalkLaws.{walk-append}
use Rattle.net_reader.specs.declared.said.Call.{Call}
use Rattle.net_reader.specs.declared.said.Spoken.{Spoken}
use Rattle.net_reader.specs.Said.{script_of}
use Rattle.net_reader.specs.Table.{most_calls, most_nodes}
use Rattle.net_reader.specs.Valid.{IsCourse, IsSearch, IsValid}
use Rattle.word_line.specs.declared.load.Load.{Load}
use Rattle.input_text.specs.declared.listing.ActorCall.{ActorCall}
use Rattle.input_text.specs.Laws.{IsListing}
use Rattle.input_text.specs.Listing.{contents_in, spoken_of}
use Rattle.net_reader.specs.CallLaws.{script-at, scripts-few, scripts_count}
use Rattle.make_load.specs.Draws.{draw, draw_list, generator_of}
use Rattle.make_load.specs.Load.{IsLoad, calls_of, drawn_call, drawn_calls, format_of, homes_of, listing_of, order_of, other_edge, others_of, tree_edge, tree_of}
use Rattle.make_load.proofs.Lists.{all-drawn, count-drawn}
use Rattle.make_load.proofs.Sound.{HasCalls, calls-sound, draw-below}

-- ---- the measures

-- the format has room for the nodes and the calls
record HasRoom (format nodes calls : ℕ) : Type 0 where
  pub is : (format ≡ 1) ⊎ (format ≡ 2)
  pub few : nodes ≤ most_nodes format
  pub few_calls : calls ≤ most_calls format

room-go : (a b : Bool) (nodes calls : ℕ) → leb nodes 256 ≡ a → leb calls 8192 ≡ b → nodes ≤ 1024 → calls ≤ 16384
    → HasRoom (cond (a && b) 1 2) nodes calls
room-go true true nodes calls e f few less = record {
  is = inl refl;
  few = grind (arith, nat_tests);
  few_calls = grind (arith, nat_tests);
}
room-go true false nodes calls e f few less = record { is = inr refl; few = few; few_calls = less }
room-go false b nodes calls e f few less = record { is = inr refl; few = few; few_calls = less }

has-room : (load : Load) → IsLoad load → HasRoom (format_of load) load.nodes load.calls
has-room load is = room-go (leb load.nodes 256) (leb load.calls 8192) load.nodes load.calls refl refl is.few_nodes
    is.few_calls

wide-go : (a b c d e : Bool) (nodes k : ℕ) → leb nodes 256 ≡ a → leb 2 k ≡ b → ((a || b) && (c || d || e)) ≡ true
    → 256 < nodes → 2 ≤ k
wide-go a true c d e nodes k f g h many = grind (arith, nat_tests)
wide-go true false c d e nodes k f g h many = absurd (grind (arith, nat_tests))
wide-go false false c d e nodes k f g h many = cc

is-wide : (load : Load) → IsLoad load → 256 < load.nodes → 2 ≤ load.k
is-wide load is many = wide-go (leb load.nodes 256) (leb 2 load.k) (leb 2 load.nodes) (leb 1 load.callers)
    (eqb load.calls 0)
    load.nodes load.k refl refl is.sound many

calls-go : (a b c d e : Bool) (nodes callers calls : ℕ) → leb 2 nodes ≡ c → leb 1 callers ≡ d → eqb calls 0 ≡ e
    → ((a || b) && (c || d || e)) ≡ true → 0 < calls → (2 ≤ nodes) ⊎ (1 ≤ callers)
calls-go a b true d e nodes callers calls f g h i some = inl (grind (arith, nat_tests))
calls-go a b false true e nodes callers calls f g h i some = inr (grind (arith, nat_tests))
calls-go a b false false true nodes callers calls f g h i some = absurd (grind (arith, nat_tests))
calls-go true b false false false nodes callers calls f g h i some = cc
calls-go false true false false false nodes callers calls f g h i some = cc
calls-go false false false false false nodes callers calls f g h i some = cc

has-calls : (load : Load) → IsLoad load → 0 < load.calls → HasCalls load
has-calls load is some = record {
  nodes = is.some_nodes;
  subs = is.some_subs;
  sound = calls-go (leb load.nodes 256) (leb 2 load.k) (leb 2 load.nodes) (leb 1 load.callers) (eqb load.calls 0)
      load.nodes load.callers load.calls refl refl refl is.sound some;
}

-- ---- the edges

weighted-is : (n a b : ℕ) (g : Lcg) → a < n → b < n → IsEdge n (make_edge a b (1 + (draw 16 g).value))
weighted-is n a b g below there =
    let light : (draw 16 g).value < 16 = draw-below 16 g (omega arith) in
    record { a_below = below; b_below = there; positive = omega arith; light = omega (arith, light) }

edges-are : (load : Load) → IsLoad load → All (IsEdge load.nodes) ((tree_of load).value ++ (others_of load).value)
edges-are load is =
    let n = load.nodes in
    All-append (IsEdge n) (tree_of load).value (others_of load).value
    (all-drawn (IsEdge n) tree_edge 1 (n - 1) (generator_of load.start)
    (λ v g above below. weighted-is n ((v - 1) / 2) v g (omega (arith, above, below)) (omega (arith, above, below))))
    (all-drawn (IsEdge n) (other_edge n) 0 (n / 2) (tree_of load).left
    (λ i g above below.
    weighted-is n (draw n g).value (draw n (draw n g).left).value (draw n (draw n g).left).left
    (draw-below n g is.some_nodes) (draw-below n (draw n g).left is.some_nodes)))

-- an edge of the tree leads to each node but 0 from a smaller one
tree-go : (v from count : ℕ) (g : Lcg) (here : Bool) → eqb v from ≡ here → from ≤ v → v < from + suc count
    → (from + 1 ≤ v → (w : ℕ) × Contains (draw_list tree_edge (from + 1) count (tree_edge from g).left).value (make_edge
    ((v - 1) / 2) v w))
    → (w : ℕ) × Contains (draw_list tree_edge from (suc count) g).value (make_edge ((v - 1) / 2) v w)
tree-go v from count g true e above below rest =
    let same : v ≡ from = grind (arith, nat_tests) in
    (1 + (draw 16 g).value, (0, omega arith, ap (λ i. make_edge ((i - 1) / 2) i (1 + (draw 16 g).value)) (sym same)))
tree-go v from count g false e above below rest =
    let other : v ≢ from = grind (arith, nat_tests) in
    let found = rest (omega arith) in
    let there : Contains (draw_list tree_edge (from + 1) count (tree_edge from g).left).value (make_edge ((v - 1) / 2) v
    found.0) = found.1 in (
      found.0,
      Contains-append_right ((tree_edge from g).value ∷ []) (draw_list tree_edge (from + 1) count (tree_edge from
          g).left).value (make_edge ((v - 1) / 2) v found.0) there,
    )

tree-has : (v from count : ℕ) (g : Lcg) → from ≤ v → v < from + count
    → (w : ℕ) × Contains (draw_list tree_edge from count g).value (make_edge ((v - 1) / 2) v w)
tree-has v from zero g above below = absurd (omega arith)
tree-has v from (suc count) g above below =
    tree-go v from count g (eqb v from) refl above below
    (λ later. tree-has v (from + 1) count (tree_edge from g).left (omega arith) (omega arith))

-- a walk leads to each node
reached : (load : Load) (edges : List Edge) → ((v : ℕ) → 1 ≤ v → v < load.nodes
    → (w : ℕ) × Contains edges (make_edge ((v - 1) / 2) v w)) → (bound v : ℕ) → v < bound → v < load.nodes
    → IsReached edges everywhere 0 v
reached load edges has zero v less below = absurd (omega arith)
reached load edges has (suc bound) zero less below = record { steps = []; walk = (refl, refl) }
reached load edges has (suc bound) (suc u) less below =
    let v = suc u in
    let parent = (v - 1) / 2 in
    let edge = has v (omega arith) below in
    let joined : Contains edges (make_edge parent v edge.0) = edge.1 in
    let so_far = reached load edges has bound parent (omega arith) (omega arith) in
    let last : List Step = record { node = v; weight = edge.0 } ∷ [] in record {
      steps = so_far.steps ++ last;
      walk = walk-append edges everywhere 0 so_far.steps parent last v so_far.walk
          (refl, inl joined, (refl, refl));
    }

-- the edges of the tree among all
tree-joins : (load : Load) (v : ℕ) → 1 ≤ v → v < load.nodes
    → (w : ℕ) × Contains ((tree_of load).value ++ (others_of load).value) (make_edge ((v - 1) / 2) v w)
tree-joins load v some below =
    let found = tree-has v 1 (load.nodes - 1) (generator_of load.start) some (omega arith) in (
      found.0,
      Contains-append_left (tree_of load).value (others_of load).value (make_edge ((v - 1) / 2) v found.0)
          found.1,
    )

edges-few : (load : Load) → IsLoad load → length ((tree_of load).value ++ (others_of load).value) ≤ 32768
edges-few load is = omega (
  arith,
  length-append (tree_of load).value (others_of load).value,
  count-drawn tree_edge 1 (load.nodes - 1) (generator_of load.start),
  count-drawn (other_edge load.nodes) 0 (load.nodes / 2) (tree_of load).left,
  is.few_nodes,
)

all-homes : (load : Load) → IsLoad load → All (λ home. home < load.nodes) (homes_of load).value
all-homes load is = all-drawn (λ home. home < load.nodes) (λ i. draw load.nodes) 0 load.subs (others_of load).left
    (λ i g above below. draw-below load.nodes g is.some_nodes)

calls-count : (load : Load) (j count : ℕ) (places : List ℕ) (g : Lcg)
    → length (drawn_calls load j count places g).value ≡ count
calls-count load j zero places g = refl
calls-count load j (suc count) places g =
    ap suc (calls-count load (j + 1) count (drawn_call load j places g).places (drawn_call load j places g).left)

-- ---- all together

listing-valid : (load : Load) → IsLoad load → IsValid (contents_in (listing_of load))
listing-valid load is =
    let n = load.nodes in
    let homes = (homes_of load).value in
    let listed = (calls_of load).value in
    let spoken : List Spoken = map spoken_of listed in
    let script : ℕ → List Call = λ actor. script_of actor spoken in
    let count : length homes ≡ load.subs = count-drawn (λ i. draw n) 0 load.subs (others_of load).left in
    let actors : ℕ = length homes + load.callers in
    let scripts = scripts_count script 0 actors in
    let room = has-room load is in
    let sound = calls-sound (format_of load) load 0 load.calls homes (homes_of load).left (has-calls load is) (record {
      count = count;
      below = all-homes load is;
    }) in
    let listed_few : length listed ≡ load.calls = calls-count load 0 load.calls homes (homes_of load).left in record {
      format = room.is;
      some = is.some_nodes;
      few = room.few;
      k_some = is.some_k;
      k_few = is.few_k;
      k_wide = is-wide load is;
      edges = edges-are load is;
      few_edges = edges-few load is;
      homes = all-homes load is;
      some_homes = omega (arith, count, is.some_subs);
      few_homes = omega (arith, count, is.few_subs);
      callers = is.few_callers;
      scripts = scripts;
      courses = λ s below.
          subst (λ (cs : List Call). IsCourse (format_of load) n (get_or homes s 0) false cs)
          (sym (script-at script actors s (omega (arith, below)))) (sound.courses s (omega (arith, below, count)));
      searches = λ a above below.
          subst (λ (cs : List Call). All (IsSearch n (length homes)) cs)
          (sym (script-at script actors a (omega (arith, below, scripts))))
          (subst (λ m. All (IsSearch n m) (script a)) (sym count) (sound.searches a (omega (arith, above, count))));
      few_calls = omega (arith, scripts-few 0 actors spoken, length-map listed spoken_of, listed_few, room.few_calls);
      order = subst (λ m. All (λ a. a < m) (order_of load).value) (ap (λ m. m + load.callers) (sym count) ∙ sym scripts)
          (all-drawn (λ a. a < load.subs + load.callers) (λ i. draw (load.subs + load.callers)) 0 (8 * load.calls)
          (calls_of load).left (λ i g above below. draw-below (load.subs + load.callers) g
          (omega (arith, is.some_subs))));
      connected = λ v below. reached load ((tree_of load).value ++ (others_of load).value) (tree-joins load) (v + 1) v
          (omega arith) below;
    }

pub listing-is : (load : Load) → IsLoad load → IsListing (listing_of load)
listing-is load is =
    let homes = (homes_of load).value in
    let count : length homes ≡ load.subs = count-drawn (λ i. draw load.nodes) 0 load.subs (others_of load).left in
    let room = has-room load is in
    let sound = calls-sound (format_of load) load 0 load.calls homes (homes_of load).left (has-calls load is) (record {
      count = count;
      below = all-homes load is;
    }) in record {
      valid = listing-valid load is;
      actors = subst (λ m. All (λ (c : ActorCall). c.actor < m + load.callers) (calls_of load).value) (sym count)
          sound.actors;
      few = omega (arith, calls-count load 0 load.calls homes (homes_of load).left, room.few_calls);
    }
