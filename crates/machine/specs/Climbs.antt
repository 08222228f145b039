-- How a caller climbs over many entries at once: what its walk passes, and the reader that it is at
-- in the row of all readers of its origin.
-- Key law: `Caller::look`, by its clause.
use Rattle.region_plan.specs.Plan.{PlanData}
use Rattle.visit_log.specs.Routes.{Rung, rung_at}
use Rattle.walk.specs.declared.progress.Climb.{Climb}
use Rattle.walk.specs.Climbs.{GoesOn, IsClimbOver}

-- the reader that a climb is at
abbrev pub rung_of : Climb → Rung
rung_of climb = rung_at climb.level climb.index

-- a climb of a plan goes on past its entry
pub record Passes (plan : PlanData) (climb : Climb) : Type 0 where
  pub over : IsClimbOver plan climb
  pub on : GoesOn plan climb
