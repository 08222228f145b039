use Rattle.std.proofs.Common.{arith, refl}
use Rattle.std.specs.BinaryHeap.{heap_items}
use Rattle.net_graph.proofs.Waits.{settled_goes, next_is, taken_waited, none_waits}
use Rattle.net_graph.proofs.queue.Queue.next_unsettled.Goals as goal

pub bounds-unsettled-node : goal.bounds-unsettled-node
bounds-unsettled-node c =
    c.requires c.in-Some.field-0.0.0 c.in-Some.field-0.0.1
    (taken_waited (heap_items c.pop.new.self) c.loop-weight.invariant c.in-Some.field-0.0.0 c.in-Some.field-0.0.1
    c.in-Some.ensures.permutation)

pub returns-then-unsettled-node-clause-next : goal.returns-then-unsettled-node-clause-next
returns-then-unsettled-node-clause-next c =
    let weight = c.in-Some.field-0.0.0 in
    let node = c.in-Some.field-0.0.1 in
    let rest = heap_items c.pop.new.self in
    let taken = c.in-Some.ensures.permutation in
    next_is rest c.loop-weight.invariant weight node taken (record { node = node; weight = weight }) refl refl
    (c.requires weight node (taken_waited rest c.loop-weight.invariant weight node taken))
    c.if-unsettled-node.true (c.in-Some.ensures.heap_order c.loop-weight.self.ordered).1

pub loop-weight-preserved : goal.loop-weight-preserved
loop-weight-preserved c = grind (arith, settled_goes)

pub returns-clause-none : goal.returns-clause-none
returns-clause-none c =
    none_waits c.loop-weight.invariant (omega (arith, c.in_default.ensures.none))
