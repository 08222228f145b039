-- Steps of the search for least walks, on the list of the weights found so far and on the nodes
-- that wait.
-- Key law: `relax` takes one step of the search (`IsRelaxed`).
use Rattle.std.specs.Prelude.{◌≡◌, ◌⊎◌, ℕ, ◌+◌, ◌<◌, ◌≤◌, Bool, true, false, List, Option, Some, Contains, length}
use Rattle.net_graph.specs.declared.neighbours.Arc.{Arc}
use Rattle.net_graph.specs.Walks.{among}
use Rattle.net_graph.specs.Trees.{at_node}
use Rattle.net_graph.specs.Layout.{make_arc}
use Rattle.net_graph.specs.Least.{IsAtMost}
use Rattle.net_graph.specs.Queue.{Waiting, make_waiting}

-- the node has no weight yet, or a greater one
abbrev pub IsLighter : ℕ → Option ℕ → Type 0
IsLighter w weight = (x : ℕ) → weight ≡ Some x → w < x

-- a weight within the radius that an arc to an unsettled node gave
pub record IsThrough (arcs : List Arc) (x radius : ℕ) (unsettled : List Bool) (v w : ℕ) : Type 0
  where
    pub by : ℕ
    pub arc : Contains arcs (make_arc v by)
    pub waits : among unsettled v ≡ true
    pub sum : w ≡ x + by
    pub within : w ≤ radius

-- what relaxing the arcs from a node of weight x does to the weights and to the nodes that wait:
-- weights of unsettled nodes fall to those through the arcs that are within the radius, and a node
-- whose weight fell waits at its new weight
pub record IsRelaxed (arcs : List Arc) (x radius : ℕ) (unsettled : List Bool)
    (old new : List (Option ℕ)) (waited waiting : List Waiting) : Type 0 where
  pub count : length new ≡ length old
  pub kept : (v : ℕ) → among unsettled v ≡ false → at_node new v ≡ at_node old v
  pub cause : (v w : ℕ) → at_node new v ≡ Some w → (at_node old v ≡ Some w)
      ⊎ IsThrough arcs x radius unsettled v w
  pub falls : (v w : ℕ) → IsAtMost (at_node old v) w → IsAtMost (at_node new v) w
  pub reached : (v c : ℕ) → Contains arcs (make_arc v c) → among unsettled v ≡ true → x + c ≤ radius
      → IsAtMost (at_node new v) (x + c)
  pub wait_on : (w v : ℕ) → Contains waited (make_waiting w v) → Contains waiting (make_waiting w v)
  pub joined : (v w : ℕ) → at_node new v ≡ Some w → (at_node old v ≡ Some w)
      ⊎ Contains waiting (make_waiting w v)
  pub since : (w v : ℕ) → Contains waiting (make_waiting w v)
      → Contains waited (make_waiting w v) ⊎ ((v < length unsettled) × IsAtMost (at_node new v) w)
