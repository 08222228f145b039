-- The least weight of a walk, as a number that can be computed: the first number that some walk
-- weighs. Whether one does can be tested, since each edge weighs something, so that a walk has no
-- more steps than weight.
-- Key laws: `least_weight_is_found` (where a walk leads, the number is the least weight),
-- `least_weight_is_bounded` (no least weight is more than a walk through all nodes can weigh).
use Rattle.std.specs.Prelude.{ℕ, zero, suc, ◌+◌, ◌-◌, ◌*◌, ◌≤◌, Bool, true, false, ◌==◌, ◌&&◌, ◌||◌, nat_le, List, All}
use Rattle.std.specs.List.{list_any}
use Rattle.net_graph.specs.declared.edge.Edge.{Edge}
use Rattle.net_graph.specs.declared.edge.TheConstants.{MAX_WEIGHT}
use Rattle.net_graph.specs.Network.{Network, IsEdge, IsInLimits}
use Rattle.net_graph.specs.Walks.{IsLeastWeight, IsReached}

-- whether an edge leads from u, and a walk of the rest of the weight m goes on from its other end
abbrev pub leads_on : (ℕ → ℕ → Bool) → ℕ → ℕ → ℕ → ℕ → ℕ → Bool
leads_on goes_on m u from to w = from == u && (nat_le w m && goes_on (m - w) to)

-- whether a walk of fewer than so many steps and of weight m leads from u to v inside
unfoldable pub reaches : List Edge → (ℕ → Bool) → ℕ → ℕ → ℕ → ℕ → Bool
reaches edges inside v zero m u = false
reaches edges inside v (suc k) m u =
    inside u && ((m == 0 && u == v) || list_any
    (λ e. leads_on (reaches edges inside v k) m u e.a e.b e.weight || leads_on
    (reaches edges inside v k) m u e.b e.a e.weight) edges)

-- whether a walk of weight m leads from u to v inside
abbrev pub walk_weighs : List Edge → (ℕ → Bool) → ℕ → ℕ → ℕ → Bool
walk_weighs edges inside u v m = reaches edges inside v (m + 1) m u

-- a number, if it passes, and else what is found from the next one on
abbrev pub unless_here : Bool → ℕ → (ℕ → ℕ) → ℕ
unless_here true at further = at
unless_here false at further = further (suc at)

-- the first of so many numbers from `at` on that passes the test
unfoldable pub first_passing : (ℕ → Bool) → ℕ → ℕ → ℕ
first_passing test zero at = at
first_passing test (suc tries) at = unless_here (test at) at (first_passing test tries)

-- the least weight of a walk from u to v inside
abbrev pub least_weight : Network → (ℕ → Bool) → ℕ → ℕ → ℕ
least_weight network inside u v =
    first_passing (walk_weighs network.edges inside u v) (network.nodes * MAX_WEIGHT) 0

-- where a walk leads, one of this weight does, and none that weighs less
abbrev pub LeastWeightsAreFound : Type 0
LeastWeightsAreFound = (network : Network) (inside : ℕ → Bool) (u v : ℕ) → IsInLimits network
    → IsReached network.edges inside u v
    → IsLeastWeight network.edges inside u v (least_weight network inside u v)

-- a least weight is at most what a walk that visits each node once can weigh
abbrev pub LeastWeightsAreBounded : Type 0
LeastWeightsAreBounded = (n : ℕ) (edges : List Edge) (inside : ℕ → Bool) (u v w : ℕ)
    → All (IsEdge n) edges → IsLeastWeight edges inside u v w → w ≤ (n - 1) * MAX_WEIGHT
