-- What the lines of an outcome say of the weight of their finds: where no visit of a move of its
-- subscriber fell within it, a find has its answer, and its weight is within a limit on its
-- distance and the open passage, both told at its last visit.
-- Key laws: `outcomes_are_near`, `plan_outcomes_are_near` (so it is for every order of valid
-- scripts).
use Rattle.std.specs.Prelude.{ℕ, ◌+◌, ◌*◌, ◌≤◌, ◌^◌, All, IfSome, List}
use Rattle.directory.specs.Settings.{Setting}
use Rattle.directory.specs.CallLines.{find_of}
use Rattle.directory.specs.Finds.{found_weight}
use Rattle.directory.specs.Histories.{History, through}
use Rattle.directory.specs.Looks.{IsQuiet}
use Rattle.directory.specs.Standing.{passage, standing}
use Rattle.directory.specs.Orders.{AreValid, history_of, Scripts}
use Rattle.directory.specs.Outcomes.{outcome_of}
use Rattle.directory.specs.declared.answers.Done.{Done}
use Rattle.region_plan.specs.Matched.{BoundsFinds}
use Rattle.region_plan.specs.Plan.{nodes_of, PlanData}
use Rattle.region_plan.specs.Settings.{setting_of}
use Rattle.stretch_laws.specs.Plans.{bound_of}
use Rattle.stretch_laws.specs.Tracking.{IsTracking, stretch}
use Rattle.trail_laws.specs.Rightness.{IsAnswered}

-- a weight is within the limit on the distance to where a subscriber stands and on the passage that
-- is open, after a history
abbrev pub IsLimited : (ℕ → ℕ → ℕ) → Setting → ℕ → ℕ → ℕ → History → Type 0
IsLimited limit setting from sub weight history =
    weight ≤ limit (setting.distance from (standing setting sub history))
    (passage setting sub history)

-- where the find of a line was quiet, it has its answer, and its weight is within the limit
abbrev pub IsLineWithin : (ℕ → ℕ → ℕ) → Setting → History → Done → Type 0
IsLineWithin limit setting history line =
    IfSome (find_of line)
    (λ find. IsQuiet history find.sub find.first find.last → IsAnswered find.found
    × IsLimited limit setting find.from find.sub (found_weight find.found)
    (through find.last history))

-- so are the lines of every order of valid scripts, with the stretch (`outcomes_are_near`)
abbrev pub OutcomesAreNear : Type 0
OutcomesAreNear =
    (setting : Setting) (width most_readers : ℕ) (scripts : Scripts) (order : List ℕ)
    → setting.nodes ≤ 2 ^ 16 → IsTracking setting width most_readers → AreValid setting scripts
    → All (IsLineWithin (λ distance passing. stretch width most_readers * distance + 2 * passing)
    setting (history_of setting scripts order))
    (outcome_of setting scripts order).calls

-- and over a plan that bounds its finds, with the plan's bound (`plan_outcomes_are_near`)
abbrev pub PlanOutcomesAreNear : Type 0
PlanOutcomesAreNear =
    (plan : PlanData) (starts : List ℕ) (scripts : Scripts) (order : List ℕ)
    → nodes_of plan ≤ 2 ^ 16 → BoundsFinds plan → AreValid (setting_of plan starts) scripts
    → All (IsLineWithin (bound_of plan) (setting_of plan starts)
    (history_of (setting_of plan starts) scripts order))
    (outcome_of (setting_of plan starts) scripts order).calls
