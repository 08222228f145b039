-- Nodes near a set: the least weight of a walk to a node from any of some sources, and what a
-- search that ends at a radius finds.
-- Key laws: `Graph::near` finds each node within the radius of a source once, the nearest first,
-- with the least weight from the sources (`AreNear`); `near_nodes_are_within`.
use Rattle.std.specs.Prelude.{◌≡◌, ◌≢◌, ◌↔◌, ℕ, ◌<◌, ◌≤◌, Bool, true, false, All, AllPairs, Contains, List, [], Option, Some, length}
use Rattle.net_graph.specs.declared.edge.Edge.{Edge}
use Rattle.net_graph.specs.declared.near.Marks.{Marks}
use Rattle.net_graph.specs.Network.{Network}
use Rattle.net_graph.specs.Queue.{Waiting, make_waiting}
use Rattle.net_graph.specs.Trees.{at_node}
use Rattle.net_graph.specs.Walks.{IsWalk, IsWalkWeight, Step, among, everywhere, weight_of}

-- a walk of this weight leads to v from one of the sources
pub record IsReachedFrom (edges : List Edge) (inside : ℕ → Bool) (sources : List ℕ) (v w : ℕ) :
    Type 0 where
  pub source : ℕ
  pub is_source : Contains sources source
  pub walk : IsWalkWeight edges inside source v w

-- a walk of weight w leads to v from one of the sources, and none from any of them weighs less
pub record IsLeastFrom (edges : List Edge) (inside : ℕ → Bool) (sources : List ℕ) (v w : ℕ) :
    Type 0 where
  pub attained : IsReachedFrom edges inside sources v w
  pub least : (source : ℕ) (steps : List Step) → Contains sources source
      → IsWalk edges inside source steps v → w ≤ weight_of steps

-- what a search found: the nodes in the order in which they were found, and the weight of each
pub record Found : Type 0 where
  pub nodes : List ℕ
  pub weights : List (Option ℕ)

-- the node x has a weight, and y has none that is less
abbrev pub IsNoFarther : List (Option ℕ) → ℕ → ℕ → Type 0
IsNoFarther weights x y = (a b : ℕ) → at_node weights x ≡ Some a → at_node weights y ≡ Some b → a ≤ b

-- just the nodes within the radius of a source are found, each once, the nearest first, each with
-- the least weight from the sources
pub record AreNear (network : Network) (sources : List ℕ) (radius : ℕ) (found : Found) : Type 0
  where
    pub weighed : (v : ℕ) → Contains found.nodes v
        → (w : ℕ) × (at_node found.weights v ≡ Some w) × (w ≤ radius)
        × IsLeastFrom network.edges everywhere sources v w
    pub listed : (v w : ℕ) → at_node found.weights v ≡ Some w → Contains found.nodes v
    pub whole : (source v : ℕ) (steps : List Step) → Contains sources source
        → IsWalk network.edges everywhere source steps v → weight_of steps ≤ radius
        → Contains found.nodes v
    pub once : AllPairs (λ x y. x ≢ y) found.nodes
    pub ordered : AllPairs (IsNoFarther found.weights) found.nodes

-- of a search's sources, a node whose least weight is so much is found where the radius is no less
abbrev pub NearNodesAreWithin : Type 0
NearNodesAreWithin =
    (network : Network) (sources : List ℕ) (radius : ℕ) (found : Found) (v w : ℕ)
    → AreNear network sources radius found → IsLeastFrom network.edges everywhere sources v w
    → Contains found.nodes v ↔ (w ≤ radius)

-- each node that has a weight, or that is settled, is among those that were found, so that these
-- say what is to be cleared before the next search
pub record IsClearable (marks : Marks) : Type 0 where
  pub count : length marks.unsettled.items ≡ length marks.weights.items
  pub below : All (λ v. v < length marks.weights.items) marks.found.items
  pub weighed : (v w : ℕ) → at_node marks.weights.items v ≡ Some w → Contains marks.found.items v
  pub settled : (v : ℕ) → v < length marks.unsettled.items
      → among marks.unsettled.items v ≡ false → Contains marks.found.items v

-- no node has a weight, and none is settled
pub record IsBlank (n : ℕ) (marks : Marks) : Type 0 where
  pub weights : length marks.weights.items ≡ n
  pub unsettled : length marks.unsettled.items ≡ n
  pub unweighed : (v w : ℕ) → at_node marks.weights.items v ≡ Some w → ⊥
  pub waits : (v : ℕ) → v < n → among marks.unsettled.items v ≡ true
  pub none : marks.found.items ≡ []

-- the sources alone have a weight, which is 0, and wait at it
pub record HasBegun (sources : List ℕ) (weights : List (Option ℕ)) (waiting : List Waiting) : Type 0
  where
    pub zero : (v w : ℕ) → at_node weights v ≡ Some w → (w ≡ 0) × Contains sources v
    pub there : (v : ℕ) → Contains sources v → at_node weights v ≡ Some 0
    pub waits : (v : ℕ) → Contains sources v → Contains waiting (make_waiting 0 v)
    pub only : (w v : ℕ) → Contains waiting (make_waiting w v) → (w ≡ 0) × Contains sources v

-- what marks say of a search
abbrev pub found_of : Marks → Found
found_of marks = record { nodes = marks.found.items; weights = marks.weights.items }

-- a search whose marks are these is at its end
pub record HasEnded (network : Network) (sources : List ℕ) (radius : ℕ) (marks : Marks) : Type 0
  where
    pub near : AreNear network sources radius (found_of marks)
    pub clearable : IsClearable marks
