-- What a handle holds, as plain data in the directory's own words: a plan with the nodes where
-- subscribers start; a find, by its call and its pursuit; a mover, by its handset; the crew of a
-- tracker and its members (Members).
-- Key laws: every export says by these what it found in a handle and what it left there.
use Rattle.std.specs.Prelude.{◌≡◌, ◌⊎◌, ℕ, List, Option, Some, None, Result, Ok, Err}
use Rattle.std.specs.Arc.{arc_value}
use Rattle.directory.specs.Finds.{FindCall, Pursuit}
use Rattle.handset.specs.Condition.{HandsetData}
use Rattle.region_plan.specs.Plan.{PlanData}
use Rattle.walk.specs.Walks.{call_of, pursuit_of}
use Rattle.track_c.specs.Faults.{Answer}
use Rattle.track_c.specs.Members.{CallerHeld, CrewHeld, SubscriberHeld, seen_caller, seen_crew, seen_subscriber}
use Rattle.track_c.specs.declared.fault.Fault.{Fault}
use Rattle.track_c.specs.declared.fault.Fault.TheVariants.{NoMemory, EmptyHandle, OtherKind, FullHandle}
use Rattle.track_c.specs.declared.object.Network.{Network}
use Rattle.track_c.specs.declared.object.Finder.{Finder}
use Rattle.track_c.specs.declared.object.Mover.{Mover}
use Rattle.track_c.specs.declared.object.Object.{Object}
use Rattle.track_c.specs.declared.object.Object.TheVariants as objects

-- a plan, and where subscribers start
pub record PlanHeld : Type 0 where
  pub plan : PlanData
  pub starts : List ℕ

-- a find over a plan
pub record FinderHeld : Type 0 where
  pub plan : PlanData
  pub call : FindCall
  pub pursuit : Pursuit

-- a subscriber's handset over a plan
pub record MoverHeld : Type 0 where
  pub plan : PlanData
  pub handset : HandsetData

-- what a handle holds
pub data Held : Type 0 where
  nothing : Held
  a_plan : (plan : PlanHeld) → Held
  a_finder : (finder : FinderHeld) → Held
  a_mover : (mover : MoverHeld) → Held
  a_crew : (crew : CrewHeld) → Held
  a_caller : (caller : CallerHeld) → Held
  a_subscriber : (subscriber : SubscriberHeld) → Held

-- a network
abbrev pub seen_network : Network → PlanHeld
seen_network network = record { plan = network.plan; starts = network.starts.items }

-- a finder
abbrev pub seen_finder : Finder → FinderHeld
seen_finder finder =
    record {
      plan = (arc_value finder.network).plan;
      call = call_of finder.walk;
      pursuit = pursuit_of (arc_value finder.network).plan finder.walk;
    }

-- a mover
abbrev pub seen_mover : Mover → MoverHeld
seen_mover mover =
    record { plan = (arc_value mover.network).plan; handset = mover.handset }

-- an object
abbrev pub seen_object : Object → Held
seen_object (objects.Plan network) = a_plan (seen_network (arc_value network))
seen_object (objects.Finder finder) = a_finder (seen_finder finder)
seen_object (objects.Mover mover) = a_mover (seen_mover mover)
seen_object (objects.Crew crew) = a_crew (seen_crew crew)
seen_object (objects.Caller caller) = a_caller (seen_caller caller)
seen_object (objects.Subscriber subscriber) = a_subscriber (seen_subscriber subscriber)

-- what may be in a handle
abbrev pub seen : Option Object → Held
seen None = nothing
seen (Some object) = seen_object object

-- the plan that is held, if a plan is
abbrev pub plan_in : Held → Answer PlanHeld
plan_in nothing = Err EmptyHandle
plan_in (a_plan plan) = Ok plan
plan_in (a_finder finder) = Err OtherKind
plan_in (a_mover mover) = Err OtherKind
plan_in (a_crew crew) = Err OtherKind
plan_in (a_caller caller) = Err OtherKind
plan_in (a_subscriber subscriber) = Err OtherKind

-- the find that is held, if one is
abbrev pub finder_in : Held → Answer FinderHeld
finder_in nothing = Err EmptyHandle
finder_in (a_plan plan) = Err OtherKind
finder_in (a_finder finder) = Ok finder
finder_in (a_mover mover) = Err OtherKind
finder_in (a_crew crew) = Err OtherKind
finder_in (a_caller caller) = Err OtherKind
finder_in (a_subscriber subscriber) = Err OtherKind

-- the mover that is held, if one is
abbrev pub mover_in : Held → Answer MoverHeld
mover_in nothing = Err EmptyHandle
mover_in (a_plan plan) = Err OtherKind
mover_in (a_finder finder) = Err OtherKind
mover_in (a_mover mover) = Ok mover
mover_in (a_crew crew) = Err OtherKind
mover_in (a_caller caller) = Err OtherKind
mover_in (a_subscriber subscriber) = Err OtherKind

-- an answer goes into a handle that is empty
abbrev pub into : Held → Answer Held → Answer Held
into nothing answer = answer
into (a_plan plan) answer = Err FullHandle
into (a_finder finder) answer = Err FullHandle
into (a_mover mover) answer = Err FullHandle
into (a_crew crew) answer = Err FullHandle
into (a_caller caller) answer = Err FullHandle
into (a_subscriber subscriber) answer = Err FullHandle

-- what was made of an answer, as it is seen
abbrev pub seen_made : Result Object Fault → Answer Held
seen_made (Ok object) = Ok (seen_object object)
seen_made (Err fault) = Err fault

-- this was made for an answer, unless memory was wanting
abbrev pub IsMade : Answer Held → Result Object Fault → Type 0
IsMade answer made = (seen_made made ≡ answer) ⊎ (made ≡ Err NoMemory)
