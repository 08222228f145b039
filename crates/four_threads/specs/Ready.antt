-- What the calls of the four threads need. Key laws: each of the program's functions keeps it, by
-- its clauses `free` and `crew`, so that one call may follow another.
use Rattle.std.specs.Prelude.{◌≡◌}
use Rattle.distances.specs.Table.{DistanceTable}
use Rattle.region_plan.specs.Plan.{PlanData}
use Rattle.station.specs.Handsets.{IsHandsetOf}
use Rattle.station.specs.Passes.{IsFree, TrackerData}
use Rattle.station.specs.Setup.{subs_in}
use Rattle.four_threads.specs.declared.crew.Crew.{Crew}

-- the plan is the tracker's own, its distances are these, and there is one subscriber
pub record IsReady (tracker : TrackerData) (plan : PlanData) (distances : DistanceTable)
    : Type 0 where
  pub plan_is : plan ≡ tracker.setup.plan
  pub belongs : plan.distances ≡ distances
  pub subs : subs_in tracker.setup ≡ 1

-- all passes are of the tracker and in no node, and the handset goes with the subscriber's
pub record IsCrewOf (tracker : TrackerData) (crew : Crew) : Type 0 where
  pub own : IsFree tracker 0 crew.own
  pub handset : IsHandsetOf tracker.setup crew.own.view crew.handset
  pub near : IsFree tracker 0 crew.near
  pub middle : IsFree tracker 0 crew.middle
  pub far : IsFree tracker 0 crew.far
