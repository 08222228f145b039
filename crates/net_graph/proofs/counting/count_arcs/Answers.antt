use Rattle.std.proofs.Common.{ℕ, ◌+◌, ◌<◌, ◌≤◌, List, ◌∷◌, [], ◌++◌, length, take, get_or, set, arith, sym}
use Rattle.std.proofs.lemmas.List.{get_or-set_other, length-set, length-take-le, take_all}
use Rattle.net_graph.specs.declared.edge.Edge.{Edge}
use Rattle.net_graph.specs.Notes.{AreCounts, note_of, notes_of}
use Rattle.net_graph.proofs.Noting.{few_arcs}
use Rattle.net_graph.proofs.Placing.{none_more, one_counted, two_more}
use Rattle.net_graph.proofs.counting.count_arcs.Goals as goal
use Rattle.net_graph.proofs.counting.count_arcs.Goals.{then-edge, else-edge}

-- before an edge, a node has at most as many arcs as edges were counted
count_few : (edges : List Edge) (i v : ℕ) (counts : List ℕ) → i < length edges → v < length counts
    → AreCounts (notes_of (take i edges)) counts → get_or counts v 0 ≤ i
count_few edges i v counts short below before =
    omega (arith, before v below, few_arcs (take i edges) v, length-take-le i edges (omega arith))

abbrev no_edge : Edge
no_edge = record { a = 0; b = 0; weight = 0 }

pub overflow_add-counts : goal.overflow_add-counts
overflow_add-counts c =
    let i = c.loop-place.place in
    let e : Edge = get_or c.args.edges.now i no_edge in
    let is_edge = c.requires.edges i no_edge c.loop-place-test.true in
    omega (
      arith,
      count_few c.args.edges.now i e.a c.loop-place.counts c.loop-place-test.true
          (omega (arith, is_edge.a_below, c.loop-place.auto.counts)) c.loop-place.invariant,
      c.loop-place-test.true,
    )

pub overflow_add-counts-then-edge : goal.overflow_add-counts-then-edge
overflow_add-counts-then-edge c =
    let i = c.loop-place.place in
    let e : Edge = get_or c.args.edges.now i no_edge in
    let is_edge = c.requires.edges i no_edge c.loop-place-test.true in
    omega (
      arith,
      count_few c.args.edges.now i e.b c.loop-place.counts c.loop-place-test.true
          (omega (arith, is_edge.b_below, c.loop-place.auto.counts)) c.loop-place.invariant,
      get_or-set_other c.loop-place.counts e.a e.b (get_or c.loop-place.counts e.a 0 + 1) 0
          (λ same. c.if-edge.true (sym same)),
      c.loop-place-test.true,
    )

pub loop-place-preserved : goal.loop-place-preserved
loop-place-preserved c =
    let i = c.loop-place.place in
    let edges = c.args.edges.now in
    let counts = c.loop-place.counts in
    let e : Edge = get_or edges i no_edge in
    let is_edge = c.requires.edges i no_edge c.loop-place-test.true in
    elim c.if-edge.branch [
      | then-edge w ↦
          let first : List ℕ = set counts e.a (get_or counts e.a 0 + 1) in
          let long = length-set counts e.a (get_or counts e.a 0 + 1) in
          rw (w.counts-is, two_more edges i no_edge c.loop-place-test.true w.if-edge.true)
          (one_counted (notes_of (take i edges) ++ note_of e.a e.b e.weight ∷ []) (note_of e.b e.a e.weight) first
          (omega (arith, is_edge.b_below, c.loop-place.auto.counts, long))
          (one_counted (notes_of (take i edges)) (note_of e.a e.b e.weight) counts
          (omega (arith, is_edge.a_below, c.loop-place.auto.counts)) c.loop-place.invariant))
      | else-edge w ↦
          rw (w.counts-is, none_more edges i no_edge c.loop-place-test.true w.if-edge.false) c.loop-place.invariant
    ]

pub returns : goal.returns
returns c = rw (take_all c.loop-place.place c.args.edges.now c.loop-place-test.false) at c.loop-place.invariant
