use Rattle.std.proofs.Common.{◌+◌, length, drop, get_or, arith}
use Rattle.std.proofs.lemmas.List.{take_all}
use Rattle.net_graph.specs.declared.edge.Edge.{Edge}
use Rattle.net_graph.specs.Notes.{notes_of, row_of}
use Rattle.net_graph.specs.RowLaws.{rows_filled}
use Rattle.net_graph.proofs.LayingOut.{rows_made}
use Rattle.net_graph.proofs.Placing.{ArePlaced, edge_placed, edge_splits, none_more, place_back, place_there, two_more}
use Rattle.net_graph.proofs.counting.fill_arcs.Goals as goal
use Rattle.net_graph.proofs.counting.fill_arcs.Goals.{then-edge, else-edge}

abbrev no_edge : Edge
no_edge = record { a = 0; b = 0; weight = 0 }

pub put_arc-requires-clause-free : goal.put_arc-requires-clause-free
put_arc-requires-clause-free c =
    let i = c.loop-edge.edge-index in
    let edges = c.args.edges.now in
    place_there c.requires.room (notes_of (drop (i + 1) edges)) (get_or edges i no_edge)
    (c.requires.edges i no_edge c.loop-edge-test.true)
    (edge_splits edges i no_edge c.loop-edge-test.true c.if-edge.true) c.loop-edge.invariant

pub put_arc-requires-then-edge-clause-free : goal.put_arc-requires-then-edge-clause-free
put_arc-requires-then-edge-clause-free c =
    let i = c.loop-edge.edge-index in
    let edges = c.args.edges.now in
    place_back c.requires.room (notes_of (drop (i + 1) edges)) (get_or edges i no_edge)
    (c.requires.edges i no_edge c.loop-edge-test.true)
    (edge_splits edges i no_edge c.loop-edge-test.true c.if-edge.true) c.loop-edge.invariant
    c.put_arc.ensures.taken c.put_arc.ensures.arcs

pub loop-edge-preserved : goal.loop-edge-preserved
loop-edge-preserved c =
    let i = c.loop-edge.edge-index in
    let edges = c.args.edges.now in
    elim c.if-edge.branch [
      | then-edge w ↦
          rw (w.taken-is, w.arcs-is, two_more edges i no_edge c.loop-edge-test.true w.if-edge.true)
          (edge_placed c.requires.room (notes_of (drop (i + 1) edges)) (get_or edges i no_edge)
          (c.requires.edges i no_edge c.loop-edge-test.true)
          (edge_splits edges i no_edge c.loop-edge-test.true w.if-edge.true) c.loop-edge.invariant
          w.put_arc.ensures.taken w.put_arc.ensures.arcs w.put_arc-then-edge.ensures.taken
          w.put_arc-then-edge.ensures.arcs)
      | else-edge w ↦ grind (arith, none_more edges i no_edge c.loop-edge-test.true w.if-edge.false)
    ]

pub returns : goal.returns
returns c =
    let n = length c.args.taken.now in
    let edges = c.args.edges.now in
    let starts = c.args.starts.now in
    let placed : ArePlaced n edges starts (notes_of edges) c.loop-edge.taken c.loop-edge.arcs =
    rw (take_all c.loop-edge.edge-index edges c.loop-edge-test.false) at c.loop-edge.invariant in
    rows_made n edges starts c.loop-edge.arcs
    (rows_filled (λ v. row_of v (notes_of edges)) c.requires.room placed.long placed.sized placed.filled placed.counts)
    placed.limits
