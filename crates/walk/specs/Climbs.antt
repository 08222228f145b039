-- A climb over entries that hold nothing: it goes from reader to reader, behind the last of a level
-- to the first of the level above, and adds twice the weight inside each that it passes.
-- Key law: `climbs_go_on` (each entry that is passed is the next look, and what follows is what
-- that look leaves when it reads nothing). `Walk::climb` and `Walk::resume` say that a walk is
-- where its climb is.
use Rattle.std.specs.Prelude.{◌≡◌, ℕ, zero, suc, ◌+◌, ◌*◌, ◌<◌, Bool, true, false, [], Some, None, length, slice_index, nat_lt, if◌then◌else◌}
use Rattle.std.proofs.Common.{subst}
use Rattle.entry_word.specs.declared.visit.Key.TheVariants.{Entry}
use Rattle.directory.specs.Finds.{after_word, answer_of, key_of}
use Rattle.region_plan.specs.Kept.{IsKept}
use Rattle.region_plan.specs.Matched.{IsMatched, IsWithinReach}
use Rattle.region_plan.specs.Plan.{PlanData, inside, levels_of, nodes_of, readers}
use Rattle.region_plan.specs.Settings.{setting_of}
use Rattle.walk.specs.declared.progress.Climb.{Climb}
use Rattle.walk.specs.declared.progress.Progress.{Progress}
use Rattle.walk.specs.declared.progress.Progress.TheVariants.{AtOrigin, Chasing, Climbing, Ended}
use Rattle.walk.specs.Walks.{IsProgressWithin, IsWalkOver, WalkData, call_of, pursuit_of}

-- a find is at the entry of a reader
abbrev pub is_climbing : Progress → Bool
is_climbing AtOrigin = false
is_climbing (Climbing known weight level index) = true
is_climbing (Chasing chase node) = false
is_climbing (Ended found) = false

-- the progress of a find that is where a climb is
abbrev pub progress_of : Climb → Progress
progress_of climb = Climbing climb.known climb.weight climb.level climb.index

-- a walk that is where a climb is
abbrev pub walk_at : WalkData → Climb → WalkData
walk_at walk climb = record walk { progress = progress_of climb }

-- a climb is that of a walk
pub record IsClimbOf (walk : WalkData) (climb : Climb) : Type 0 where
  pub from : climb.from ≡ walk.from
  pub same : walk_at walk climb ≡ walk

-- a climb goes with a plan
pub record IsClimbOver (plan : PlanData) (climb : Climb) : Type 0 where
  pub from : climb.from < nodes_of plan
  pub progress : IsProgressWithin plan climb.from (progress_of climb)

-- the cluster that it looks at
abbrev pub cluster_at : PlanData → Climb → ℕ
cluster_at plan climb = slice_index (readers plan climb.level climb.from) climb.index

-- its weight behind that entry, where it holds nothing
abbrev pub weight_behind : PlanData → Climb → ℕ
weight_behind plan climb =
    climb.weight + 2 * inside plan climb.level (cluster_at plan climb) climb.from

-- and where it is then: at the next reader of its level, or at the first of the level above
abbrev pub next_climb : PlanData → Climb → Climb
next_climb plan climb =
    if nat_lt (suc climb.index) (length (readers plan climb.level climb.from)) then
    record climb { weight = weight_behind plan climb; index = suc climb.index } else
    record climb { weight = weight_behind plan climb; level = suc climb.level; index = 0 }

-- a climb behind so many entries that hold nothing
abbrev pub climb_past : PlanData → Climb → ℕ → Climb
climb_past plan climb zero = climb
climb_past plan climb (suc count) = next_climb plan (climb_past plan climb count)

-- a walk looks at the entry of a climb, and a word that holds nothing takes it to the next one
pub record PassesEntry (plan : PlanData) (walk : WalkData) (climb : Climb) : Type 0 where
  pub key : key_of (call_of walk) (pursuit_of plan (walk_at walk climb))
      ≡ Some (Entry climb.level (cluster_at plan climb) walk.sub)
  pub pursuit : pursuit_of plan (walk_at walk (next_climb plan climb))
      ≡ after_word (setting_of plan []) (call_of walk) (pursuit_of plan (walk_at walk climb)) 0
  pub on : answer_of (pursuit_of plan (walk_at walk (next_climb plan climb))) ≡ None
  pub over : IsWalkOver plan (walk_at walk (next_climb plan climb))

-- a climb with a reader ahead goes on: it stays one of the plan, and each walk from its node passes
-- its entry
pub record GoesOn (plan : PlanData) (climb : Climb) : Type 0 where
  pub over : IsClimbOver plan (next_climb plan climb)
  pub from : (next_climb plan climb).from ≡ climb.from
  pub passes : (walk : WalkData) → climb.from ≡ walk.from → PassesEntry plan walk climb

-- so it is over each plan
abbrev pub ClimbsGoOn : Type 0
ClimbsGoOn =
    (plan : PlanData) (climb : Climb) → IsKept plan → IsMatched plan → IsWithinReach plan
    → IsClimbOver plan climb → (next_climb plan climb).level < levels_of plan → GoesOn plan climb

-- a walk from the same node that is where a climb is goes with the climb's plan
pub walk-over : (plan : PlanData) (walk : WalkData) (climb : Climb) → climb.from ≡ walk.from
    → IsClimbOver plan climb → IsWalkOver plan (walk_at walk climb)
walk-over plan walk climb same over =
    record {
      from = subst (λ from. from < nodes_of plan) same over.from;
      progress = subst (λ from. IsProgressWithin plan from (progress_of climb)) same over.progress;
    }
