-- What is said of settings, said of plans: a plan that bounds its finds is such a setting,
-- whatever its start nodes are, so that a quiet find over it travels at most the plan's own
-- stretch times its distance, and twice the open passage.
-- Key laws: `plans_track`, `plan_finds_are_near`.
use Rattle.std.specs.Prelude.{ℕ, ◌+◌, ◌*◌, ◌<◌, ◌≤◌, ◌^◌, List}
use Rattle.directory.specs.Histories.{before, History, through}
use Rattle.directory.specs.Legal.{IsLegal}
use Rattle.directory.specs.Finds.{FindCall, found_weight}
use Rattle.directory.specs.Looks.{first_of, IsFind, IsQuiet, last_of}
use Rattle.directory.specs.Standing.{passage, standing}
use Rattle.directory.specs.declared.answers.Found.{Found}
use Rattle.region_plan.specs.Matched.{BoundsFinds}
use Rattle.region_plan.specs.Measures.{degree_of, stretch_of}
use Rattle.region_plan.specs.Plan.{nodes_of, PlanData}
use Rattle.region_plan.specs.Settings.{setting_of}
use Rattle.trail_laws.specs.Rightness.{IsAnswered}
use Rattle.stretch_laws.specs.Tracking.{IsTracking}

-- a plan that bounds its finds is a setting whose clusters are as many radii wide as its reach, and
-- of which a node reads at most as many at a level as its degree (`plans_track`)
abbrev pub PlansTrack : Type 0
PlansTrack =
    (plan : PlanData) (starts : List ℕ) → BoundsFinds plan
    → IsTracking (setting_of plan starts) plan.reach (degree_of plan)

-- what a quiet find over a plan may travel, when its distance and the open passage are these
abbrev pub bound_of : PlanData → ℕ → ℕ → ℕ
bound_of plan distance passing = stretch_of plan * distance + 2 * passing

-- a find over a plan has its answer, and travelled at most the bound, told after a history
abbrev pub IsWithinBound : PlanData → List ℕ → FindCall → Found → History → Type 0
IsWithinBound plan starts call found history =
    IsAnswered found
    × (found_weight found ≤ bound_of plan
    ((setting_of plan starts).distance call.from
    (standing (setting_of plan starts) call.sub history))
    (passage (setting_of plan starts) call.sub history))

-- so it is for each quiet find over a plan that bounds its finds, told at its first look and told
-- at its last (`plan_finds_are_near`)
abbrev pub PlanFindsAreNear : Type 0
PlanFindsAreNear =
    (plan : PlanData) (starts : List ℕ) (history : History) (actor : ℕ) (call : FindCall)
    (found : Found) (tickets : List ℕ) → nodes_of plan ≤ 2 ^ 16 → BoundsFinds plan
    → call.from < nodes_of plan → IsLegal (setting_of plan starts) call.sub history
    → IsFind (setting_of plan starts) history actor call found tickets
    → IsQuiet history call.sub (first_of tickets) (last_of tickets)
    → IsWithinBound plan starts call found (before (first_of tickets) history)
    × IsWithinBound plan starts call found (through (last_of tickets) history)
