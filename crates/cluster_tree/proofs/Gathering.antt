-- The members and their weights, one node after another.
use Rattle.std.proofs.Common.{◌≡◌, ℕ, ◌+◌, ◌<◌, true, false, List, [], ◌∷◌, ◌++◌, Option, Some, ◌∙◌, arith}
use Rattle.std.proofs.lemmas.List.{length_push}
use Rattle.std.proofs.lemmas.Bool.{cases_eq, cases_lt}
use Rattle.net_graph.specs.Trees.{at_node}
use Rattle.node_set.specs.Ascending.{has, sift}
use Rattle.node_set.specs.SetLaws.{has-passing, passing_over, passing_takes, passing_skips}
use Rattle.cluster_tree.specs.declared.weighing.Weighed.{Weighed}
use Rattle.cluster_tree.specs.Weighing.{AreWeighedBelow}
use Rattle.cluster_tree.proofs.Places.{beside_old, beside_new}

below_member : (members : List ℕ) (i v : ℕ) → v < i → has v members ≡ true → has v (sift (λ x. has x members) 0 i)
    ≡ true
below_member members i v below member = has-passing (λ x. has x members) v 0 i (omega arith) (omega arith) ∙ member

pub member_taken : (i w : ℕ) (members : List ℕ) (weights : List (Option ℕ)) (old new : Weighed)
    → has i members ≡ true → at_node weights i ≡ Some w
    → new.nodes.items ≡ old.nodes.items ++ i ∷ [] → new.weights.items ≡ old.weights.items ++ w ∷ []
    → AreWeighedBelow i members weights old → AreWeighedBelow (i + 1) members weights new
member_taken i w members weights old new member weighs nodes_are weights_are so_far =
    grind (arith, passing_takes, length_push, cases_lt, below_member, beside_old, passing_over, beside_new)

pub other_skipped : (i : ℕ) (members : List ℕ) (weights : List (Option ℕ)) (weighed : Weighed)
    → has i members ≡ false → AreWeighedBelow i members weights weighed
    → AreWeighedBelow (i + 1) members weights weighed
other_skipped i members weights weighed other so_far = grind (arith, passing_skips, cases_eq)
