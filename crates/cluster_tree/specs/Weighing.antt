-- What the private functions that weigh the members find.
-- Key law: `inside_weights`, which they make up.
use Rattle.std.specs.Prelude.{◌≡◌, ℕ, ◌<◌, Bool, true, List, Option, None, Some, length, ⊤}
use Rattle.net_graph.specs.Walks.{among}
use Rattle.net_graph.specs.Trees.{at_node}
use Rattle.node_set.specs.Nodes.{Nodes}
use Rattle.node_set.specs.Ascending.{has, sift}
use Rattle.cluster_tree.specs.declared.fault.TreeFault.{TreeFault}
use Rattle.cluster_tree.specs.declared.fault.TreeFault.TheVariants.{Outside, OutOfMemory}
use Rattle.cluster_tree.specs.declared.weighing.Weighed.{Weighed}
use Rattle.cluster_tree.specs.Tree.{weight_beside}

-- the flags below i say which nodes are members
pub record AreFlagsBelow (i : ℕ) (members : List ℕ) (flags : List Bool) : Type 0 where
  pub count : length flags ≡ i
  pub each : (v : ℕ) → v < i → among flags v ≡ has v members

-- the members below i, each with its weight
pub record AreWeighedBelow (i : ℕ) (members : List ℕ) (weights : List (Option ℕ))
    (weighed : Weighed) : Type 0 where
  pub nodes : weighed.nodes.items ≡ sift (λ x. has x members) 0 i
  pub count : length weighed.weights.items ≡ length weighed.nodes.items
  pub each : (v : ℕ) → v < i → has v members ≡ true → at_node weights v
      ≡ Some (weight_beside v weighed.nodes.items weighed.weights.items)

-- the least member that has no weight
pub record IsFirstMissing (set : Nodes) (weights : List (Option ℕ)) (node : ℕ) : Type 0 where
  pub below : node < set.room
  pub member : has node set.members ≡ true
  pub missing : at_node weights node ≡ None
  pub first : (v : ℕ) → v < node → has v set.members ≡ true → (w : ℕ) × (at_node weights v ≡ Some w)

-- `Outside` names the first such; memory may run out at any time
abbrev pub IsMissing : Nodes → List (Option ℕ) → TreeFault → Type 0
IsMissing set weights (Outside node) = IsFirstMissing set weights node
IsMissing set weights OutOfMemory = ⊤
