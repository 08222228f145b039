-- What the lines of an outcome say of the weight of every find, quiet or not and whatever it
-- answers: it is within the plan's bound on the distance, told at any visit of the find, and what
-- the moves committed within it had gathered, and on the passage that was open before it.
-- Key law: `plan_outcomes_are_priced` (so it is for every order of valid scripts).
use Rattle.std.specs.Prelude.{ℕ, ◌+◌, ◌≤◌, ◌^◌, All, IfSome, List}
use Rattle.directory.specs.Settings.{Setting}
use Rattle.directory.specs.CallLines.{find_of}
use Rattle.directory.specs.Finds.{found_weight}
use Rattle.directory.specs.Histories.{before, History}
use Rattle.directory.specs.Orders.{AreValid, history_of, Scripts}
use Rattle.directory.specs.Outcomes.{outcome_of}
use Rattle.directory.specs.Standing.{passage, standing}
use Rattle.directory.specs.declared.answers.Done.{Done}
use Rattle.region_plan.specs.Matched.{BoundsFinds}
use Rattle.region_plan.specs.Plan.{nodes_of, PlanData}
use Rattle.region_plan.specs.Settings.{setting_of}
use Rattle.stretch_laws.specs.Plans.{bound_of}
use Rattle.busy_finds.specs.Prices.{gathered_within}

-- the find of a line weighs no more than a limit on its distance at any of its tickets with what
-- the moves within had gathered, and on the passage that was open before its first look
abbrev pub IsLinePriced : (ℕ → ℕ → ℕ) → Setting → History → Done → Type 0
IsLinePriced limit setting history line =
    IfSome (find_of line)
    (λ find. (ticket : ℕ) → find.first ≤ ticket → ticket ≤ find.last
    → found_weight find.found ≤ limit
    (setting.distance find.from (standing setting find.sub (before ticket history))
    + gathered_within setting find.sub history find.first find.last)
    (passage setting find.sub (before find.first history)))

-- so are the lines of every order of valid scripts over a plan that bounds its finds, with the
-- plan's own bound (`plan_outcomes_are_priced`)
abbrev pub PlanOutcomesArePriced : Type 0
PlanOutcomesArePriced =
    (plan : PlanData) (starts : List ℕ) (scripts : Scripts) (order : List ℕ)
    → nodes_of plan ≤ 2 ^ 16 → BoundsFinds plan → AreValid (setting_of plan starts) scripts
    → All (IsLinePriced (bound_of plan) (setting_of plan starts)
    (history_of (setting_of plan starts) scripts order))
    (outcome_of (setting_of plan starts) scripts order).calls
