-- When a cluster has no tree from its leader.
-- Key law: `ClusterTree::new` gives no other fault (`fault`).
use Rattle.std.specs.Prelude.{◌≡◌, ℕ, ◌<◌, true, List, ⊤}
use Rattle.net_graph.specs.Walks.{IsReached, IsUnreached}
use Rattle.net_graph.specs.Network.{Network}
use Rattle.node_set.specs.Ascending.{has}
use Rattle.cluster_tree.specs.declared.fault.TreeFault.{TreeFault}
use Rattle.cluster_tree.specs.declared.fault.TreeFault.TheVariants.{Outside, OutOfMemory}
use Rattle.cluster_tree.specs.Tree.{within}

-- the least member that no walk through members reaches from the leader
pub record IsFirstOutside (network : Network) (members : List ℕ) (leader node : ℕ) : Type 0 where
  pub member : has node members ≡ true
  pub unreached : IsUnreached network.edges (within members) leader node
  pub first : (v : ℕ) → v < node → has v members ≡ true
      → IsReached network.edges (within members) leader v

-- `Outside` names the least member that isn't reached; memory may run out at any time
abbrev pub IsTreeFault : Network → List ℕ → ℕ → TreeFault → Type 0
IsTreeFault network members leader (Outside node) = IsFirstOutside network members leader node
IsTreeFault network members leader OutOfMemory = ⊤
