use Rattle.std.proofs.Common.{ap, arith}
use Rattle.node_set.specs.Nodes.{Nodes}
use Rattle.node_set.proofs.Words.{next_below}
use Rattle.node_set.proofs.set.NodeSet.next_from.Goals as goal

pub overflow_cast-result : goal.overflow_cast-result
overflow_cast-result c =
    let below = next_below c.self.invariant (rw c.deref.ensures.value at c.in-Some.ensures.some) in
    omega (arith, below, c.self.invariant.small)

pub returns-in-Some-clause-below : goal.returns-in-Some-clause-below
returns-in-Some-clause-below c =
    let below = next_below c.self.invariant (rw c.deref.ensures.value at c.in-Some.ensures.some) in
    omega (arith, below, ap (λ (s : Nodes). s.room) c.self.view_is)
