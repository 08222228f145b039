use Rattle.std.specs.BinaryHeap.{heap_items}
use Rattle.net_graph.proofs.Nearing.{IsNearing}
use Rattle.net_graph.proofs.Searching.{unsettled_count}
use Rattle.net_graph.proofs.near.spread.Given as goal

abbrev pub invariant-loop-lightest : goal.invariant-loop-lightest
invariant-loop-lightest l = IsNearing l.neighbours l.sources l.radius l.marks.found.items l.marks.unsettled.items
    l.marks.weights.items (heap_items l.queue.heap)

abbrev pub decreases-loop-lightest : goal.decreases-loop-lightest
decreases-loop-lightest l = unsettled_count l.marks.unsettled.items
