-- The arcs of each node, while they are counted and written into their places.
use Rattle.std.proofs.Common.{rules, ◌≡◌, ◌≢◌, ℕ, ◌+◌, ◌<◌, List, [], ◌∷◌, ◌++◌, length, get_or, set, take, drop, sym, ◌∙◌, ap, arith, append_assoc}
use Rattle.std.proofs.lemmas.Bool.{cases_eq}
use Rattle.std.proofs.lemmas.List.{get_or-set_same, get_or-set_other, length-append, length-set, take-append-drop, append-nil}
use Rattle.std.proofs.Math.Seq.{get_or-append_seam}
use Rattle.std.specs.Prelude.{All}
use Rattle.std.proofs.lemmas.Grind.{flat_map-append}
use Rattle.std.proofs.lemmas.List.Elements.{All-set}
use Rattle.net_graph.specs.declared.edge.Edge.{Edge}
use Rattle.net_graph.specs.declared.neighbours.Arc.{Arc}
use Rattle.net_graph.specs.Layout.{IsArc, make_arc}
use Rattle.net_graph.specs.Network.{IsEdge}
use Rattle.net_graph.specs.Notes.{Note, note_of, notes_by, notes_of, row_of, AreCounts, HaveRoom}
use Rattle.net_graph.proofs.Noting.{row-append, row-own, row-other, edge-notes, loop-notes, notes-push}
use Rattle.net_graph.specs.Starts.{AreFilled, AreStarts}
use Rattle.net_graph.specs.StartLaws.{places_made}
use Rattle.net_graph.specs.RowLaws.{one_filled, place_short}

-- ---- counts

row-push : {u : ℕ} (notes : List Note) (note : Note) → u ≡ note.from → length (row_of u (notes ++ note ∷ [])) ≡ length
    (row_of u notes) + 1
row-push {u} notes note is = grind (arith, row-append, row-own, length-append)

row-passed : {u : ℕ} (notes : List Note) (note : Note) → (u ≡ note.from → ⊥)
    → row_of u (notes ++ note ∷ []) ≡ row_of u notes
row-passed {u} notes note other = grind (arith, row-append, row-other, append-nil)

-- one note more is counted
pub one_counted : (notes : List Note) (note : Note) (counts : List ℕ) → note.from < length counts
    → AreCounts notes counts → AreCounts (notes ++ note ∷ []) (set counts note.from (get_or counts note.from 0 + 1))
one_counted notes note counts below before v short = grind (
  arith,
  length-set counts note.from (get_or counts note.from 0 + 1),
  cases_eq v note.from,
  get_or-set_same counts note.from (get_or counts note.from 0 + 1) 0 below,
  row-push,
  get_or-set_other,
  row-passed,
)

-- the notes of an edge that is no loop, one behind the other
pub two_more : (edges : List Edge) (i : ℕ) (d : Edge) → i < length edges
    → (get_or edges i d).a ≢ (get_or edges i d).b → notes_of (take (i + 1) edges)
    ≡ (notes_of (take i edges)
    ++ note_of (get_or edges i d).a (get_or edges i d).b (get_or edges i d).weight ∷ [])
    ++ note_of (get_or edges i d).b (get_or edges i d).a (get_or edges i d).weight ∷ []
two_more edges i d below apart = grind (arith, notes-push edges i d below, edge-notes, append_assoc)

pub none_more : (edges : List Edge) (i : ℕ) (d : Edge) → i < length edges
    → (get_or edges i d).a ≡ (get_or edges i d).b → notes_of (take (i + 1) edges) ≡ notes_of (take i edges)
none_more edges i d below same =
    notes-push edges i d below
    ∙ ap (λ xs. notes_of (take i edges) ++ xs) (loop-notes (get_or edges i d) same)
    ∙ append-nil (notes_of (take i edges))

pub room_made : {n : ℕ} (notes : List Note) {counts starts : List ℕ} → length counts ≡ n → AreCounts notes counts
    → AreStarts counts starts → HaveRoom n notes starts
room_made {n} notes {counts} {starts} whole counted sums = grind (arith, places_made)

-- ---- an edge that is no loop

-- all notes are those before the edge, its two, and those behind
pub edge_splits : (edges : List Edge) (i : ℕ) (d : Edge) → i < length edges
    → (get_or edges i d).a ≢ (get_or edges i d).b → notes_of edges
    ≡ (notes_of (take i edges)
    ++ note_of (get_or edges i d).a (get_or edges i d).b (get_or edges i d).weight ∷ [])
    ++ note_of (get_or edges i d).b (get_or edges i d).a (get_or edges i d).weight ∷ notes_of (drop (i + 1) edges)
edge_splits edges i d below apart =
    let e : Edge = get_or edges i d in
    let before : List Note = notes_of (take i edges) ++ note_of e.a e.b e.weight ∷ [] in
    ap notes_of (sym (take-append-drop (i + 1) edges))
    ∙ flat_map-append notes_by (take (i + 1) edges) (drop (i + 1) edges)
    ∙ ap (λ xs. xs ++ notes_of (drop (i + 1) edges)) (two_more edges i d below apart)
    ∙ append_assoc before (note_of e.b e.a e.weight ∷ []) (notes_of (drop (i + 1) edges))

-- what the places hold once the first so many edges are written
pub record ArePlaced (n : ℕ) (edges : List Edge) (starts : List ℕ) (first : List Note) (taken : List ℕ)
    (arcs : List Arc) : Type 0 where
  pub counts : AreCounts first taken
  pub filled : AreFilled (λ v. row_of v (notes_of edges)) starts taken arcs
  pub limits : All (IsArc n) arcs
  pub long : length taken ≡ n
  pub sized : length arcs ≡ get_or starts n 0

module _ {n : ℕ} {edges : List Edge} {starts : List ℕ} (room : HaveRoom n (notes_of edges) starts) {first : List Note}
    (rest : List Note) (note : Note) (whole : notes_of edges ≡ first ++ note ∷ rest) (below : note.from < n)
    {taken : List ℕ} {arcs : List Arc} (placed : ArePlaced n edges starts first taken arcs) where
  its_place : note.from < length taken
  its_place = omega (arith, below, placed.long)

  its_row : row_of note.from (notes_of edges) ≡ row_of note.from first ++ note.arc ∷ row_of note.from rest
  its_row = search (rules, row-append, row-own)

  is_next : get_or (row_of note.from (notes_of edges)) (get_or taken note.from 0) note.arc ≡ note.arc
  is_next = search (rules, its_row, its_place, get_or-append_seam)

  free : get_or taken note.from 0 < length (row_of note.from (notes_of edges))
  free =
      omega (
        arith,
        placed.counts note.from its_place,
        ap (length {A = Arc}) its_row,
        length-append (row_of note.from first) (note.arc ∷ row_of note.from rest),
      )

  has_place : get_or starts note.from 0 + get_or taken note.from 0 < length arcs
  has_place = search (rules, place_short, free)

  one_placed : {next : List ℕ} {more : List Arc} → IsArc n note.arc
      → next ≡ set taken note.from (get_or taken note.from 0 + 1)
      → more ≡ set arcs (get_or starts note.from 0 + get_or taken note.from 0) note.arc
      → ArePlaced n edges starts (first ++ note ∷ []) next more
  one_placed limited next_is more_is = rw (next_is, more_is) (record {
    counts = one_counted first note taken its_place placed.counts;
    filled = one_filled (λ v. row_of v (notes_of edges)) room placed.long placed.sized placed.filled note.from below
        free note.arc note.arc is_next;
    limits = All-set (IsArc n) arcs (get_or starts note.from 0 + get_or taken note.from 0) note.arc limited
        placed.limits;
    long = length-set taken note.from (get_or taken note.from 0 + 1) ∙ placed.long;
    sized = length-set arcs (get_or starts note.from 0 + get_or taken note.from 0) note.arc ∙ placed.sized;
  })

-- an edge that is no loop, one way and then the other
module _ {n : ℕ} {edges : List Edge} {starts : List ℕ} (room : HaveRoom n (notes_of edges) starts) {first : List Note}
    (rest : List Note) (e : Edge) (is_edge : IsEdge n e)
    (splits : notes_of edges ≡ (first ++ note_of e.a e.b e.weight ∷ []) ++ note_of e.b e.a e.weight ∷ rest)
    {taken : List ℕ} {arcs : List Arc} (placed : ArePlaced n edges starts first taken arcs) where
  one_way : notes_of edges ≡ first ++ note_of e.a e.b e.weight ∷ note_of e.b e.a e.weight ∷ rest
  one_way = splits ∙ append_assoc first (note_of e.a e.b e.weight ∷ []) (note_of e.b e.a e.weight ∷ rest)

  pub place_there : get_or starts e.a 0 + get_or taken e.a 0 < length arcs
  place_there =
      has_place room (note_of e.b e.a e.weight ∷ rest) (note_of e.a e.b e.weight) one_way is_edge.a_below placed

  module _ {next : List ℕ} {more : List Arc} (next_is : next ≡ set taken e.a (get_or taken e.a 0 + 1))
      (more_is : more ≡ set arcs (get_or starts e.a 0 + get_or taken e.a 0) (make_arc e.b e.weight)) where
    placed_there : ArePlaced n edges starts (first ++ note_of e.a e.b e.weight ∷ []) next more
    placed_there = search (rules, one_placed, one_way)

    pub place_back : get_or starts e.b 0 + get_or next e.b 0 < length more
    place_back = has_place room rest (note_of e.b e.a e.weight) splits is_edge.b_below placed_there

    pub edge_placed : {last : List ℕ} {most : List Arc} → last ≡ set next e.b (get_or next e.b 0 + 1)
        → most ≡ set more (get_or starts e.b 0 + get_or next e.b 0) (make_arc e.a e.weight)
        → ArePlaced n edges starts ((first ++ note_of e.a e.b e.weight ∷ []) ++ note_of e.b e.a e.weight ∷ []) last most
    edge_placed = search (rules, one_placed, placed_there)
