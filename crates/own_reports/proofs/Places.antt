-- The calls of outcomes keep the parts of place, of what is to be made again, and of weight.
use Rattle.std.proofs.Common.{get_or}
use Rattle.directory.specs.Orders.{Scripts, history_of}
use Rattle.directory.specs.Settings.{Setting}
use Rattle.directory.specs.Statements.{CallersCount, LinesAreMade, OrdersAreDone, OrdersArePlayed}
use Rattle.directory.specs.Outcomes.{outcome_of}
use Rattle.region_plan.specs.Matched.{BoundsFinds, PlansBoundFinds}
use Rattle.region_plan.specs.Meanings.{PlansMean}
use Rattle.region_plan.specs.Plan.{PlanData}
use Rattle.scripts.specs.Laws.{ScriptsAreValid}
use Rattle.scripts.specs.Scripts.{scripts_of}
use Rattle.stretch_laws.specs.NearOutcomes.{PlanOutcomesAreNear}
use Rattle.stretch_laws.specs.Plans.{PlansTrack}
use Rattle.trail_laws.specs.RightOutcomes.{OutcomesAreRight}
use Rattle.own_reports.specs.Reports.{PlacesAreTold}
use Rattle.own_reports.proofs.Cuts.{IsOver, Laws}
use Rattle.own_reports.proofs.FindParts.{line-keeps}
use Rattle.own_reports.proofs.Inputs.{over-in, plan-bounds, setting_in}
use Rattle.report_check.specs.Inputs.{plan_for}

-- the laws of plans and of finds that are used
pub record PlanLaws : Type 0 where
  pub means : PlansMean
  pub bounds : PlansBoundFinds
  pub track : PlansTrack
  pub scripts : ScriptsAreValid
  pub played : OrdersArePlayed
  pub done : OrdersAreDone
  pub made : LinesAreMade
  pub right : OutcomesAreRight
  pub near : PlanOutcomesAreNear

pub places-told : Laws → CallersCount → PlanLaws → PlacesAreTold
places-told laws count plans contents order valid =
    let plan : PlanData = plan_for contents in
    let setting : Setting = setting_in contents in
    let scripts : Scripts = scripts_of contents in
    let over : IsOver setting scripts (history_of setting scripts order) =
    over-in plans.means plans.scripts plans.played plans.done contents order valid in
    let bounds : BoundsFinds plan = plan-bounds plans.bounds contents valid in
    λ i call low.
    line-keeps laws count plan contents.homes scripts (history_of setting scripts order) over
    (get_or (outcome_of setting scripts order).calls i call)
    (plans.made setting scripts (history_of setting scripts order) over.played over.done i call low)
    (plans.right setting scripts order over.nodes (plans.track plan contents.homes bounds).whole over.valid i call low)
    (plans.near plan contents.homes scripts order over.nodes bounds over.valid i call low)
