-- What the steps of a script need, and keep: `IsOver` (a tracker of one subscriber over a plan) and
-- `AreReady` (passes outside all nodes, and the handset of the first of them); and what there is
-- before them: `AreNew` (passes that have seen nothing, and that handset).
use Rattle.std.specs.Prelude.{◌≡◌}
use Rattle.distances.specs.Table.{DistanceTable}
use Rattle.handset.specs.Condition.{HandsetData}
use Rattle.region_plan.specs.Plan.{PlanData}
use Rattle.station.specs.Handsets.{IsHandsetOf}
use Rattle.station.specs.Passes.{IsFree, IsFreshPass, PassData, TrackerData, fresh_view}
use Rattle.station.specs.Setup.{subs_in}

-- a tracker has one subscriber, and is over this plan of these distances
pub record IsOver (tracker : TrackerData) (plan : PlanData) (distances : DistanceTable)
    : Type 0 where
  pub plan_is : plan ≡ tracker.setup.plan
  pub belongs : plan.distances ≡ distances
  pub subs : subs_in tracker.setup ≡ 1

-- passes of a tracker are outside all nodes, and a handset goes with the first
pub record AreReady (tracker : TrackerData) (own caller other : PassData)
    (handset : HandsetData) : Type 0 where
  pub own_is : IsFree tracker 0 own
  pub caller_is : IsFree tracker 0 caller
  pub other_is : IsFree tracker 0 other
  pub handset_is : IsHandsetOf tracker.setup own.view handset

-- passes of a tracker have seen nothing, and a handset goes with the first
pub record AreNew (tracker : TrackerData) (own caller other : PassData) (handset : HandsetData)
    : Type 0 where
  pub own_is : IsFreshPass tracker 0 own
  pub caller_is : IsFreshPass tracker 1 caller
  pub other_is : IsFreshPass tracker 2 other
  pub handset_is : IsHandsetOf tracker.setup (fresh_view tracker.setup 0) handset
