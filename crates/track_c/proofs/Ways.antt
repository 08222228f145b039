-- How light the way into a reader at which a climb is.
use Rattle.std.proofs.Common.{◌≤◌, ◌^◌, ℕ, length}
use Rattle.std.specs.Prelude.{slice_index}
use Rattle.region_plan.specs.Kept.{IsKept}
use Rattle.region_plan.specs.Matched.{IsMatched, IsWithinReach}
use Rattle.region_plan.specs.Plan.{PlanData, inside, readers}
use Rattle.region_plan.specs.ReaderLaws.{reader-held, readers-few, way-light}
use Rattle.walk.specs.Climbs.{IsClimbOver}
use Rattle.walk.specs.declared.progress.Climb.{Climb}

-- the weight inside the reader
pub climb-light : (plan : PlanData) (climb : Climb) → IsKept plan → IsMatched plan
    → IsWithinReach plan → IsClimbOver plan climb
    → inside plan climb.level (slice_index (readers plan climb.level climb.from) climb.index) climb.from
    ≤ 2 ^ 35
climb-light plan climb kept matched reached over =
    let held = reader-held plan climb.level climb.from climb.index matched over.progress.0 over.from
    over.progress.1 in
    way-light plan climb.level (slice_index (readers plan climb.level climb.from) climb.index)
    climb.from kept reached over.progress.0 held.1 held.0

-- how many readers there are
pub climb-few : (plan : PlanData) (climb : Climb) → IsKept plan → IsMatched plan
    → IsClimbOver plan climb → length (readers plan climb.level climb.from) ≤ 1024
climb-few plan climb kept matched over =
    readers-few plan climb.level climb.from matched kept over.progress.0 over.from
