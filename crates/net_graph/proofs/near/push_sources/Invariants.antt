use Rattle.std.proofs.Common.{take}
use Rattle.std.specs.BinaryHeap.{heap_items}
use Rattle.net_graph.specs.Near.{HasBegun}
use Rattle.net_graph.proofs.near.push_sources.Given as goal

abbrev pub invariant-loop-source : goal.invariant-loop-source
invariant-loop-source l = HasBegun (take l.source-index l.sources) l.weights (heap_items l.queue.heap)
