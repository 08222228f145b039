use Rattle.node_set.proofs.Remains.{cut_set, kept}
use Rattle.node_set.proofs.set.NodeSet.keep.Goals as goal

pub invariant_of-self : goal.invariant_of-self
invariant_of-self c =
    let cut = kept (rw (c.deref_mut.ensures.value, c.deref.ensures.value) at c.words_keep.ensures) in
    (cut_set c.self.invariant cut c.self.inside.words.ok.0).0

pub returns-clause-members : goal.returns-clause-members
returns-clause-members c =
    let cut = kept (rw (c.deref_mut.ensures.value, c.deref.ensures.value) at c.words_keep.ensures) in
    rw (← c.self.view_is, ← c.other.view_is) (cut_set c.self.invariant cut c.self.inside.words.ok.0).1
