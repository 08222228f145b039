use Rattle.std.proofs.lemmas.Grind.{common_steps}
use Rattle.std.proofs.Common.{◌∙◌, ◌≡◌, length, List, ℕ, ap, arith}
use Rattle.node_set.specs.SetLaws.{below-has}
use Rattle.cluster_tree.proofs.Growing.{err_passed, is_fault, is_tree, members_are}
use Rattle.cluster_tree.proofs.inside.push_found.Goals as goal

pub weights_from-requires-clause-root : goal.weights_from-requires-clause-root
weights_from-requires-clause-root c = grind (arith, below-has)

pub returns-in_err-weighed-clause-fault : goal.returns-in_err-weighed-clause-fault
returns-in_err-weighed-clause-fault c = grind (arith, is_fault, err_passed)

pub returns-clause-found : goal.returns-clause-found
returns-clause-found c =
    let weighed = c.in_ok-weighed.weighed in
    let are_weighed = rw c.deref-2.ensures.value at c.in_ok-weighed.ensures.weighed in
    let same : weighed.nodes.items ≡ c.args.cluster.now.members =
    members_are c.weights_from.ensures.sound c.flags_of.ensures.sound c.requires.room c.requires.leader
    c.in_ok-flags.ensures.flags (rw c.deref.ensures.value at c.in_ok-found.ensures.weights) are_weighed in
    record {
      weights = weighed.weights.items;
      appended = grind arith;
      count = are_weighed.count ∙ ap (λ (xs : List ℕ). length xs) same;
      tree = rw same at (is_tree c.weights_from.ensures.sound c.flags_of.ensures.sound c.requires.room
          c.requires.leader c.in_ok-flags.ensures.flags (rw c.deref.ensures.value at c.in_ok-found.ensures.weights)
          are_weighed);
    }

pub returns-in_err-extend_from_slice : goal.returns-in_err-extend_from_slice
returns-in_err-extend_from_slice c = grind (arith, common_steps)

pub returns-in_err-weighed-clause-found : goal.returns-in_err-weighed-clause-found
returns-in_err-weighed-clause-found c = grind (arith, common_steps)

pub returns-in_err-weighed-clause-kept : goal.returns-in_err-weighed-clause-kept
returns-in_err-weighed-clause-kept c = grind (arith, common_steps)
