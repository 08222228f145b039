-- What a find may weigh, told by how many moves are committed within it and by what these weigh,
-- where nothing is said of what they had gathered: a move hides one level at most from the find,
-- and so doubles at most how far the find climbs. Without the doubling it is false.
-- Key laws: `finds_meeting_few_moves`, `plan_finds_meeting_few_moves`.
use Rattle.std.specs.Prelude.{ℕ, ◌+◌, ◌*◌, ◌<◌, ◌≤◌, ◌^◌, List, length}
use Rattle.directory.specs.Settings.{Setting}
use Rattle.directory.specs.Histories.{before, History}
use Rattle.directory.specs.Courses.{Move}
use Rattle.directory.specs.Legal.{IsLegal}
use Rattle.directory.specs.Finds.{FindCall, found_weight}
use Rattle.directory.specs.Looks.{first_of, IsFind, last_of}
use Rattle.directory.specs.Standing.{passage, standing}
use Rattle.directory.specs.declared.answers.Found.{Found}
use Rattle.region_plan.specs.Matched.{BoundsFinds}
use Rattle.region_plan.specs.Plan.{nodes_of, PlanData}
use Rattle.region_plan.specs.Settings.{setting_of}
use Rattle.stretch_laws.specs.Plans.{bound_of}
use Rattle.stretch_laws.specs.Tracking.{IsTracking, stretch}
use Rattle.busy_finds.specs.Plans.{distance_at}
use Rattle.busy_finds.specs.Prices.{moves_within, weight_of}

-- a distance and what some moves weigh, doubled for each of the moves
abbrev pub doubled_by : List Move → ℕ → ℕ
doubled_by moves distance = 2 ^ length moves * (distance + weight_of moves)

-- no find weighs more than the stretch times its distance and what the moves within weigh, doubled
-- for each of these moves, and twice the passage that was open before its first look; the distance
-- may be told at any ticket from its first look to its last (`finds_meeting_few_moves`)
abbrev pub FindsMeetingFewMoves : Type 0
FindsMeetingFewMoves =
    (setting : Setting) (width most_readers : ℕ) (history : History) (actor : ℕ) (call : FindCall)
    (found : Found) (tickets : List ℕ) (ticket : ℕ) → setting.nodes ≤ 2 ^ 16
    → IsTracking setting width most_readers → call.from < setting.nodes
    → IsLegal setting call.sub history → IsFind setting history actor call found tickets
    → first_of tickets ≤ ticket → ticket ≤ last_of tickets
    → found_weight found ≤ stretch width most_readers
    * doubled_by (moves_within setting call.sub history (first_of tickets) (last_of tickets))
    (setting.distance call.from (standing setting call.sub (before ticket history)))
    + 2 * passage setting call.sub (before (first_of tickets) history)

-- and over a plan that bounds its finds each is within the plan's bound on this and on that passage
-- (`plan_finds_meeting_few_moves`)
abbrev pub PlanFindsMeetingFewMoves : Type 0
PlanFindsMeetingFewMoves =
    (plan : PlanData) (starts : List ℕ) (history : History) (actor : ℕ) (call : FindCall)
    (found : Found) (tickets : List ℕ) (ticket : ℕ) → nodes_of plan ≤ 2 ^ 16 → BoundsFinds plan
    → call.from < nodes_of plan → IsLegal (setting_of plan starts) call.sub history
    → IsFind (setting_of plan starts) history actor call found tickets
    → first_of tickets ≤ ticket → ticket ≤ last_of tickets
    → found_weight found ≤ bound_of plan
    (doubled_by
    (moves_within (setting_of plan starts) call.sub history (first_of tickets) (last_of tickets))
    (distance_at plan starts call history ticket))
    (passage (setting_of plan starts) call.sub (before (first_of tickets) history))
