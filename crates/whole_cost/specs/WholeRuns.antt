-- What all finds of one subscriber and all of its moves weigh together: finds of any number of
-- callers, each of which makes its own in turn, and all that the subscriber writes, in one legal
-- history. What moves gather, once for each level of the way, is paid by each caller once, and by
-- the subscriber as it writes.
-- Key laws: `whole_runs_are_bounded` (in settings like those of plans), `plan_runs_are_bounded`
-- (over every plan that bounds its finds).
use Rattle.std.specs.Prelude.{ℕ, ◌+◌, ◌*◌, ◌≤◌, ◌^◌, All, List, length, sum_by}
use Rattle.busy_finds.specs.Altogether.{AreInTurn, distance_in_all, MadeFind, passages_in_all, weigh_in_all}
use Rattle.busy_finds.specs.Prices.{weight_of}
use Rattle.busy_finds.specs.Within.{moves_of}
use Rattle.directory.specs.Histories.{History, puts_to}
use Rattle.directory.specs.Legal.{IsLegal}
use Rattle.directory.specs.Puts.{steps_in}
use Rattle.directory.specs.Settings.{levels, Setting}
use Rattle.move_cost.specs.Costs.{written}
use Rattle.move_cost.specs.Pace.{IsPaced}
use Rattle.region_plan.specs.Matched.{BoundsFinds}
use Rattle.region_plan.specs.Measures.{stretch_of}
use Rattle.region_plan.specs.Plan.{nodes_of, PlanData}
use Rattle.region_plan.specs.Settings.{setting_of}
use Rattle.stretch_laws.specs.Tracking.{IsTracking, stretch}

-- the finds of a subscriber that each of some callers made, one after another
abbrev pub AreMade : Setting → History → ℕ → List (List MadeFind) → Type 0
AreMade setting history sub callers = All (AreInTurn setting history sub 0) callers

-- what the finds of callers weigh, their distances, and the passages that were open before them
abbrev pub weigh_by_all : List (List MadeFind) → ℕ
weigh_by_all callers = sum_by weigh_in_all callers

abbrev pub distance_by_all : Setting → History → List (List MadeFind) → ℕ
distance_by_all setting history callers = sum_by (distance_in_all setting history) callers

abbrev pub passages_by_all : Setting → History → List (List MadeFind) → ℕ
passages_by_all setting history callers = sum_by (passages_in_all setting history) callers

-- how far a subscriber goes by the moves that it has begun
abbrev pub way_in : Setting → ℕ → History → ℕ
way_in setting sub history = weight_of (moves_of setting sub history)

-- the weight of all that it writes for the steps that it has begun, those of a step under way among
-- them that are still to come
abbrev pub written_in : Setting → ℕ → History → ℕ
written_in setting sub history = written setting sub (steps_in (puts_to sub history))

-- so many times the distances; the way, once for each level, so many times for each caller and
-- 16 * width + 4 times for what is written; and twice the passages
abbrev pub most_in_all : ℕ → ℕ → Setting → History → ℕ → List (List MadeFind) → ℕ
most_in_all times width setting history sub callers =
    times * distance_by_all setting history callers
    + (length callers * times + 16 * width + 4)
    * (levels setting * way_in setting sub history)
    + 2 * passages_by_all setting history callers

-- all finds of a subscriber and all that it writes weigh together no more, with the stretch and one
-- more as the times (`whole_runs_are_bounded`)
abbrev pub WholeRunsAreBounded : Type 0
WholeRunsAreBounded =
    (setting : Setting) (width most_readers : ℕ) (history : History) (sub : ℕ)
    (callers : List (List MadeFind)) → setting.nodes ≤ 2 ^ 16
    → IsTracking setting width most_readers → IsPaced setting width
    → IsLegal setting sub history → AreMade setting history sub callers
    → weigh_by_all callers + written_in setting sub history
    ≤ most_in_all (stretch width most_readers + 1) width setting history sub callers

-- and over a plan that bounds its finds no more with the stretch that is printed of it
-- (`plan_runs_are_bounded`)
abbrev pub PlanRunsAreBounded : Type 0
PlanRunsAreBounded =
    (plan : PlanData) (starts : List ℕ) (history : History) (sub : ℕ)
    (callers : List (List MadeFind)) → nodes_of plan ≤ 2 ^ 16 → BoundsFinds plan
    → IsLegal (setting_of plan starts) sub history
    → AreMade (setting_of plan starts) history sub callers
    → weigh_by_all callers + written_in (setting_of plan starts) sub history
    ≤ most_in_all (stretch_of plan) plan.reach (setting_of plan starts) history sub callers
