use Rattle.std.proofs.Common.{arith}
use Rattle.node_set.specs.SetLaws.{below-has}
use Rattle.cluster_tree.proofs.Growing.{err_passed, is_fault, is_tree, is_kept}
use Rattle.cluster_tree.proofs.tree.ClusterTree.new.Goals as goal

pub weights_from-requires-clause-root : goal.weights_from-requires-clause-root
weights_from-requires-clause-root c = grind (arith, below-has)

pub returns-in_err-weighed-clause-fault : goal.returns-in_err-weighed-clause-fault
returns-in_err-weighed-clause-fault c = grind (arith, is_fault, err_passed)

pub invariant_of-result : goal.invariant_of-result
invariant_of-result c =
    is_kept c.weights_from.ensures.sound c.flags_of.ensures.sound c.requires.room c.requires.leader
    c.in_ok-flags.ensures.flags (rw c.deref.ensures.value at c.in_ok-weights.ensures.weights)
    (rw c.deref-2.ensures.value at c.in_ok-weighed.ensures.weighed)
    c.greatest_weight-depth.result
    (rw c.deref-3.ensures.value at c.greatest_weight-depth.ensures.bound)
    (rw c.deref-3.ensures.value at c.greatest_weight-depth.ensures.attained)

pub returns-clause-tree : goal.returns-clause-tree
returns-clause-tree c =
    is_tree c.weights_from.ensures.sound c.flags_of.ensures.sound c.requires.room c.requires.leader
    c.in_ok-flags.ensures.flags (rw c.deref.ensures.value at c.in_ok-weights.ensures.weights)
    (rw c.deref-2.ensures.value at c.in_ok-weighed.ensures.weighed)
