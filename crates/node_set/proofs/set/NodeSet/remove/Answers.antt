use Rattle.node_set.proofs.Remains.{cut_set, removed}
use Rattle.node_set.proofs.set.NodeSet.remove.Goals as goal

pub invariant_of-self : goal.invariant_of-self
invariant_of-self c =
    let cut = removed (rw (c.deref_mut.ensures.value, c.deref.ensures.value) at c.words_remove.ensures) in
    (cut_set c.self.invariant cut c.self.inside.words.ok.0).0

pub returns-clause-members : goal.returns-clause-members
returns-clause-members c =
    let cut = removed (rw (c.deref_mut.ensures.value, c.deref.ensures.value) at c.words_remove.ensures) in
    rw (← c.self.view_is, ← c.other.view_is) (cut_set c.self.invariant cut c.self.inside.words.ok.0).1
