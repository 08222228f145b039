use Rattle.std.proofs.Common.{take}
use Rattle.std.specs.BinaryHeap.{heap_items}
use Rattle.net_graph.specs.Search.{IsRelaxed}
use Rattle.net_graph.proofs.search.relax.Given as goal

abbrev pub invariant-loop-arc : goal.invariant-loop-arc
invariant-loop-arc l =
    IsRelaxed (take l.arc-index l.arcs) l.weight l.radius l.unsettled l.initial.weights l.weights
    (heap_items l.initial.queue.heap) (heap_items l.queue.heap)
