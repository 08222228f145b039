use Rattle.std.specs.BinaryHeap.{heap_items}
use Rattle.net_graph.specs.Walks.{among}
use Rattle.net_graph.proofs.Rooted.{IsUnderWay}
use Rattle.net_graph.proofs.Searching.{unsettled_count}
use Rattle.net_graph.proofs.search.search_from.Given as goal

abbrev pub invariant-loop-lightest : goal.invariant-loop-lightest
invariant-loop-lightest l =
    IsUnderWay l.neighbours (among l.allowed) l.root l.unsettled.items l.weights.items (heap_items l.queue.heap)

abbrev pub decreases-loop-lightest : goal.decreases-loop-lightest
decreases-loop-lightest l = unsettled_count l.unsettled.items
