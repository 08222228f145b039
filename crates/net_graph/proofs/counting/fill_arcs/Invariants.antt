use Rattle.std.proofs.Common.{length, take}
use Rattle.net_graph.specs.Notes.{notes_of}
use Rattle.net_graph.proofs.Placing.{ArePlaced}
use Rattle.net_graph.proofs.counting.fill_arcs.Given as goal

abbrev pub invariant-loop-edge : goal.invariant-loop-edge
invariant-loop-edge l =
    ArePlaced (length l.fn.taken) l.edges l.starts (notes_of (take l.edge-index l.edges)) l.taken l.arcs
