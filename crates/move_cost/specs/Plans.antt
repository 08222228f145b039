-- What moves cost over the plan of an input: what an input, its plan and its distances have to do
-- with one another, and that the lines of a plan that bounds its finds are within its rate.
-- Key laws: `costs`, by its clauses `lines` and `bounded`; `plans_are_paced` and
-- `lines_are_within_rate` (the bounds, over every plan that bounds its finds),
-- `network_lines_are_within_rate` (over the plan of every network).
use Rattle.std.specs.Prelude.{◌≡◌, ◌-◌, ◌*◌, ◌≤◌, ℕ, List, All}
use Rattle.net_graph.specs.Network.{IsNetwork, Network}
use Rattle.distances.specs.Table.{DistanceTable}
use Rattle.directory.specs.Orders.{AreValid, Scripts}
use Rattle.net_reader.specs.Input.{Contents}
use Rattle.net_reader.specs.Valid.{IsValid}
use Rattle.region_plan.specs.Plan.{PlanData, levels_of, nodes_of}
use Rattle.region_plan.specs.Matched.{BoundsFinds}
use Rattle.region_plan.specs.Regions.{plan_of}
use Rattle.region_plan.specs.Settings.{setting_of}
use Rattle.move_cost.specs.declared.line.CostLine.{CostLine}
use Rattle.move_cost.specs.Costs.{cost_lines}
use Rattle.move_cost.specs.Pace.{IsPaced}
use Rattle.move_cost.specs.Rate.{IsWithinRate}

-- the input is valid, and the plan is one of its nodes, with these distances
pub record GoTogether (input : Contents) (plan : PlanData) (distances : DistanceTable) : Type 0
  where
    pub valid : IsValid input
    pub nodes : nodes_of plan ≡ input.nodes
    pub belongs : plan.distances ≡ distances

-- what the moves of scripts cost over a plan is within the rate of its reach and its levels
abbrev pub AreWithinRate : PlanData → List CostLine → Type 0
AreWithinRate plan lines = All (IsWithinRate plan.reach (levels_of plan)) lines

-- a plan that bounds its finds is a setting whose levels are renewed at the pace that the bounds
-- ask for, with clusters as many radii wide as its reach (`plans_are_paced`)
abbrev pub PlansArePaced : Type 0
PlansArePaced =
    (plan : PlanData) (starts : List ℕ) → BoundsFinds plan
    → IsPaced (setting_of plan starts) plan.reach

-- what the moves of valid scripts cost over it is within its rate (`lines_are_within_rate`)
abbrev pub LinesAreWithinRate : Type 0
LinesAreWithinRate =
    (plan : PlanData) (starts : List ℕ) (scripts : Scripts) → BoundsFinds plan
    → AreValid (setting_of plan starts) scripts
    → AreWithinRate plan (cost_lines (setting_of plan starts) scripts)

-- over the plan of a network with the trade-off k the width is 2 k - 1
-- (`network_lines_are_within_rate`)
abbrev pub NetworkLinesAreWithinRate : Type 0
NetworkLinesAreWithinRate =
    (network : Network) (k : ℕ) (starts : List ℕ) (scripts : Scripts) → IsNetwork network → 1 ≤ k
    → AreValid (setting_of (plan_of network k) starts) scripts
    → All (IsWithinRate (2 * k - 1) (levels_of (plan_of network k)))
    (cost_lines (setting_of (plan_of network k) starts) scripts)
