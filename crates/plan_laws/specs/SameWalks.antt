-- Networks of the same nodes over which the least walks weigh the same: an edge that no least walk
-- takes is in no plan.
-- Key laws: `covered_plan_of_same_walks` and `plan_of_same_walks` (such networks have one plan).
use Rattle.std.specs.Prelude.{◌≡◌, ℕ, ◌≤◌}
use Rattle.net_graph.specs.Network.{Network, IsNetwork, SameWalks}
use Rattle.region_plan.specs.Coverings.{trade_off_of}
use Rattle.region_plan.specs.Regions.{covered_plan, plan_of}
use Rattle.region_plan.specs.declared.covering.Covering.{Covering}

-- they have one plan over each covering
abbrev pub CoveredPlansOfSameWalks : Type 0
CoveredPlansOfSameWalks = (covering : Covering) (one other : Network) → IsNetwork one
    → IsNetwork other → one.nodes ≡ other.nodes → SameWalks other.edges one.edges
    → 1 ≤ trade_off_of covering → covered_plan covering one ≡ covered_plan covering other

-- and so one plan
abbrev pub PlansOfSameWalks : Type 0
PlansOfSameWalks = (one other : Network) (k : ℕ) → IsNetwork one → IsNetwork other
    → one.nodes ≡ other.nodes → SameWalks other.edges one.edges → 1 ≤ k
    → plan_of one k ≡ plan_of other k
