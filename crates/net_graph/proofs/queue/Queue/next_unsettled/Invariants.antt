use Rattle.std.specs.BinaryHeap.{heap_items, heap_len}
use Rattle.net_graph.proofs.Waits.{StillWait}
use Rattle.net_graph.proofs.queue.Queue.next_unsettled.Given as goal

abbrev pub invariant-loop-weight : goal.invariant-loop-weight
invariant-loop-weight l = StillWait l.unsettled (heap_items l.initial.self.heap) (heap_items l.self.heap)

abbrev pub decreases-loop-weight : goal.decreases-loop-weight
decreases-loop-weight l = heap_len l.self.heap
