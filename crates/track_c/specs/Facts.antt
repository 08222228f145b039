-- What the fields of an object keep has one proof at most, as the fact of a ghost field must.
use Rattle.std.specs.Prelude.{ℕ}
use Rattle.std.proofs.Props.{props}
use Rattle.directory.specs.Courses.{Move}
use Rattle.handset.specs.Condition.{IsMoveStage}
use Rattle.handset.specs.declared.stage.Stage.{Stage}
use Rattle.handset.specs.declared.stage.Stage.TheVariants.{Resting, Coming, Renewing, Committing, Confirming, Erasing, Purging, Switching}
use Rattle.region_plan.specs.Plan.{PlanData}
use Rattle.walk.specs.Walks.{IsProgressWithin}
use Rattle.walk.specs.declared.progress.Progress.{Progress}
use Rattle.walk.specs.declared.progress.Progress.TheVariants.{AtOrigin, Climbing, Chasing, Ended}

pub IsProgressWithin-prop : (plan : PlanData) (from : ℕ) (progress : Progress)
    → IsProp (IsProgressWithin plan from progress)
IsProgressWithin-prop plan from AtOrigin = hlevel props
IsProgressWithin-prop plan from (Climbing known weight level index) = hlevel props
IsProgressWithin-prop plan from (Chasing chase node) = hlevel props
IsProgressWithin-prop plan from (Ended found) = hlevel props

pub IsMoveStage-prop : (nodes : ℕ) (move : Move) (stage : Stage)
    → IsProp (IsMoveStage nodes move stage)
IsMoveStage-prop nodes move Resting = hlevel props
IsMoveStage-prop nodes move Coming = hlevel props
IsMoveStage-prop nodes move (Renewing level) = hlevel props
IsMoveStage-prop nodes move Committing = hlevel props
IsMoveStage-prop nodes move Confirming = hlevel props
IsMoveStage-prop nodes move (Erasing level) = hlevel props
IsMoveStage-prop nodes move (Purging node) = hlevel props
IsMoveStage-prop nodes move (Switching off) = hlevel props

pub ruleset facts = (props, IsProgressWithin-prop, IsMoveStage-prop)
