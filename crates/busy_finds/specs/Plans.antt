-- What is said of settings, said of plans: over a plan that bounds its finds every find, whatever
-- falls within it, weighs at most the plan's own stretch times its distance and what the moves
-- within had gathered, and twice the passage that was open before it.
-- Key laws: `plan_finds_are_bounded`, `plan_finds_in_turn_are_bounded`, `plans_gather_half`.
use Rattle.std.specs.Prelude.{◌≡◌, ℕ, ◌+◌, ◌*◌, ◌<◌, ◌≤◌, ◌^◌, List}
use Rattle.directory.specs.Histories.{before, History}
use Rattle.directory.specs.Legal.{IsLegal}
use Rattle.directory.specs.Finds.{FindCall, found_weight}
use Rattle.directory.specs.Looks.{first_of, IsFind, last_of}
use Rattle.directory.specs.Standing.{number, passage, standing}
use Rattle.directory.specs.declared.answers.Found.{Found}
use Rattle.region_plan.specs.Matched.{BoundsFinds}
use Rattle.region_plan.specs.Plan.{levels_of, nodes_of, PlanData}
use Rattle.region_plan.specs.Settings.{setting_of}
use Rattle.stretch_laws.specs.Plans.{bound_of}
use Rattle.busy_finds.specs.Altogether.{AreInTurn, distance_in_all, MadeFind, passages_in_all, weigh_in_all}
use Rattle.busy_finds.specs.Prices.{gathered_within, GathersHalf, weight_of}
use Rattle.busy_finds.specs.Within.{moves_of}

-- a plan that bounds its finds renews no level before it has gathered half of its radius
-- (`plans_gather_half`)
abbrev pub PlansGatherHalf : Type 0
PlansGatherHalf =
    (plan : PlanData) (starts : List ℕ) → BoundsFinds plan → GathersHalf (setting_of plan starts)

-- the distance of a find to where its subscriber stands at a ticket
abbrev pub distance_at : PlanData → List ℕ → FindCall → History → ℕ → ℕ
distance_at plan starts call history ticket =
    (setting_of plan starts).distance call.from
    (standing (setting_of plan starts) call.sub (before ticket history))

-- each find over such a plan is within the plan's bound, on its distance at any ticket from its
-- first look to its last and what the moves within had gathered, and on the passage that was open
-- before its first look (`plan_finds_are_bounded`)
abbrev pub PlanFindsAreBounded : Type 0
PlanFindsAreBounded =
    (plan : PlanData) (starts : List ℕ) (history : History) (actor : ℕ) (call : FindCall)
    (found : Found) (tickets : List ℕ) (ticket : ℕ) → nodes_of plan ≤ 2 ^ 16 → BoundsFinds plan
    → call.from < nodes_of plan → IsLegal (setting_of plan starts) call.sub history
    → IsFind (setting_of plan starts) history actor call found tickets
    → first_of tickets ≤ ticket → ticket ≤ last_of tickets
    → found_weight found ≤ bound_of plan
    (distance_at plan starts call history ticket
    + gathered_within (setting_of plan starts) call.sub history (first_of tickets)
    (last_of tickets))
    (passage (setting_of plan starts) call.sub (before (first_of tickets) history))

-- and where no commit of its subscriber falls within it, on its distance and that passage alone
-- (`plan_finds_are_bounded`)
abbrev pub PlanFindsBetweenCommits : Type 0
PlanFindsBetweenCommits =
    (plan : PlanData) (starts : List ℕ) (history : History) (actor : ℕ) (call : FindCall)
    (found : Found) (tickets : List ℕ) → nodes_of plan ≤ 2 ^ 16 → BoundsFinds plan
    → call.from < nodes_of plan → IsLegal (setting_of plan starts) call.sub history
    → IsFind (setting_of plan starts) history actor call found tickets
    → number call.sub (before (last_of tickets) history)
    ≡ number call.sub (before (first_of tickets) history)
    → found_weight found ≤ bound_of plan
    (distance_at plan starts call history (first_of tickets))
    (passage (setting_of plan starts) call.sub (before (first_of tickets) history))

-- finds of a subscriber in turn are in all within the plan's bound, on their distances and what the
-- subscriber moved, once for each level, and on the passages that were open before them
-- (`plan_finds_in_turn_are_bounded`)
abbrev pub PlanFindsInTurnAreBounded : Type 0
PlanFindsInTurnAreBounded =
    (plan : PlanData) (starts : List ℕ) (history : History) (sub : ℕ) (finds : List MadeFind)
    → nodes_of plan ≤ 2 ^ 16 → BoundsFinds plan → IsLegal (setting_of plan starts) sub history
    → AreInTurn (setting_of plan starts) history sub 0 finds
    → weigh_in_all finds ≤ bound_of plan
    (distance_in_all (setting_of plan starts) history finds
    + levels_of plan * weight_of (moves_of (setting_of plan starts) sub history))
    (passages_in_all (setting_of plan starts) history finds)
