use Rattle.std.proofs.Common.{take}
use Rattle.net_graph.specs.Notes.{AreCounts, notes_of}
use Rattle.net_graph.proofs.counting.count_arcs.Given as goal

abbrev pub invariant-loop-place : goal.invariant-loop-place
invariant-loop-place l = AreCounts (notes_of (take l.place l.edges)) l.counts
