-- What is said of settings, said of plans: over a plan that bounds its finds each find keeps to the
-- plan's own stretches.
-- Key law: `plan_finds_keep_own_stretch`.
use Rattle.std.specs.Prelude.{◌≡◌, ℕ, ◌+◌, ◌*◌, ◌<◌, ◌≤◌, ◌^◌, max, List}
use Rattle.directory.specs.Histories.{before, History}
use Rattle.directory.specs.Legal.{IsLegal}
use Rattle.directory.specs.Finds.{FindCall, found_weight}
use Rattle.directory.specs.Looks.{first_of, IsFind, IsQuiet, last_of}
use Rattle.directory.specs.Standing.{number, passage}
use Rattle.directory.specs.declared.answers.Found.{Found}
use Rattle.region_plan.specs.Matched.{BoundsFinds}
use Rattle.region_plan.specs.Plan.{nodes_of, PlanData}
use Rattle.region_plan.specs.Settings.{setting_of}
use Rattle.busy_finds.specs.Plans.{distance_at}
use Rattle.busy_finds.specs.Prices.{greatest_threshold, moves_within, weight_of}
use Rattle.own_stretch.specs.OwnStretch.{any_stretch_of, own_stretch_of}

-- over a plan each find with no commit of its subscriber within it weighs at most so many times its
-- distance, and twice the passage that was open before its first look
abbrev pub FindsKeepOwn : PlanData → List ℕ → ℕ → Type 0
FindsKeepOwn plan starts own =
    (history : History) (actor : ℕ) (call : FindCall) (found : Found) (tickets : List ℕ)
    → call.from < nodes_of plan → IsLegal (setting_of plan starts) call.sub history
    → IsFind (setting_of plan starts) history actor call found tickets
    → number call.sub (before (last_of tickets) history)
    ≡ number call.sub (before (first_of tickets) history)
    → found_weight found ≤ own * distance_at plan starts call history (first_of tickets)
    + 2 * passage (setting_of plan starts) call.sub (before (first_of tickets) history)

-- so does each quiet find
abbrev pub QuietFindsKeepOwn : PlanData → List ℕ → ℕ → Type 0
QuietFindsKeepOwn plan starts own =
    (history : History) (actor : ℕ) (call : FindCall) (found : Found) (tickets : List ℕ)
    → call.from < nodes_of plan → IsLegal (setting_of plan starts) call.sub history
    → IsFind (setting_of plan starts) history actor call found tickets
    → IsQuiet history call.sub (first_of tickets) (last_of tickets)
    → found_weight found ≤ own * distance_at plan starts call history (first_of tickets)
    + 2 * passage (setting_of plan starts) call.sub (before (first_of tickets) history)

-- each find, whatever falls within it, weighs at most so many times its distance, or times the
-- greatest threshold that the moves within reached, if that is more; twice that passage; and what
-- the moves within weigh
abbrev pub FindsKeepAny : PlanData → List ℕ → ℕ → Type 0
FindsKeepAny plan starts most =
    (history : History) (actor : ℕ) (call : FindCall) (found : Found) (tickets : List ℕ)
    → call.from < nodes_of plan → IsLegal (setting_of plan starts) call.sub history
    → IsFind (setting_of plan starts) history actor call found tickets
    → found_weight found
    ≤ most * max (distance_at plan starts call history (first_of tickets))
    (greatest_threshold (setting_of plan starts) (moves_within (setting_of plan starts) call.sub
    history (first_of tickets) (last_of tickets)))
    + 2 * passage (setting_of plan starts) call.sub (before (first_of tickets) history)
    + weight_of (moves_within (setting_of plan starts) call.sub history (first_of tickets)
    (last_of tickets))

-- over a plan these two numbers bound the weight of finds
pub record BoundWeights (plan : PlanData) (starts : List ℕ) (own most : ℕ) : Type 0 where
  pub between : FindsKeepOwn plan starts own
  pub quiet : QuietFindsKeepOwn plan starts own
  pub every : FindsKeepAny plan starts most

-- a plan's own stretches do, where it bounds its finds (`plan_finds_keep_own_stretch`)
abbrev pub PlanFindsKeepOwnStretch : Type 0
PlanFindsKeepOwnStretch =
    (plan : PlanData) (starts : List ℕ) → nodes_of plan ≤ 2 ^ 16 → BoundsFinds plan
    → BoundWeights plan starts (own_stretch_of (setting_of plan starts))
    (any_stretch_of (setting_of plan starts))
