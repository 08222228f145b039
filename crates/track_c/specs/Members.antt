-- What the handles of a crew hold, as plain data: the passes of a tracker that nobody has taken
-- yet; a caller, by its pass; a subscriber, by its pass and its handset. Each names its tracker.
-- Key laws: the exports of a crew, by their clauses, say by these what they found and left.
use Rattle.std.specs.Prelude.{List}
use Rattle.std.specs.Arc.{arc_value}
use Rattle.handset.specs.Condition.{HandsetData}
use Rattle.station.specs.Passes.{PassData, TrackerData}
use Rattle.track_c.specs.declared.members.Crew.{Crew}
use Rattle.track_c.specs.declared.members.Caller.{Caller}
use Rattle.track_c.specs.declared.members.Subscriber.{Subscriber}

-- the passes that are left
pub record CrewHeld : Type 0 where
  pub tracker : TrackerData
  pub passes : List PassData

-- a caller
pub record CallerHeld : Type 0 where
  pub tracker : TrackerData
  pub pass : PassData

-- a subscriber
pub record SubscriberHeld : Type 0 where
  pub tracker : TrackerData
  pub pass : PassData
  pub handset : HandsetData

-- a crew
abbrev pub seen_crew : Crew → CrewHeld
seen_crew crew = record { tracker = (arc_value crew.shared).tracker; passes = crew.passes.items }

-- a caller
abbrev pub seen_caller : Caller → CallerHeld
seen_caller caller = record { tracker = (arc_value caller.shared).tracker; pass = caller.pass }

-- a subscriber
abbrev pub seen_subscriber : Subscriber → SubscriberHeld
seen_subscriber subscriber =
    record {
      tracker = (arc_value subscriber.shared).tracker;
      pass = subscriber.pass;
      handset = subscriber.handset;
    }
