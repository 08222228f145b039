-- What the calls of a crew answer: a new tracker over a plan, and its members, handed out one by
-- one, the last actor first: the callers, and then the subscribers.
-- Key laws: `track_crew_new` and `track_crew_next`, by their clauses.
use Rattle.std.specs.Prelude.{◌≡◌, ◌⊎◌, ◌<◌, ◌≤◌, ◌+◌, ℕ, nat_lt, if◌then◌else◌, All, List, [], ◌∷◌, ◌++◌, length, Ok, Err}
use Rattle.directory.specs.Settings.{start}
use Rattle.handset.specs.Beginning.{handset_at}
use Rattle.handset.specs.Condition.{HandsetData}
use Rattle.region_plan.specs.Plan.{PlanData, nodes_of}
use Rattle.station.specs.Handsets.{IsHandsetOf}
use Rattle.station.specs.Opening.{setup_of}
use Rattle.station.specs.Passes.{AreFresh, PassData, TrackerData, actor_of, fresh_view}
use Rattle.station.specs.Setup.{setting_in, subs_in}
use Rattle.track_c.specs.Faults.{Answer, Tells, and_then, code_of}
use Rattle.track_c.specs.Held.{Held, PlanHeld, nothing, a_caller, a_crew, a_subscriber}
use Rattle.track_c.specs.Members.{CrewHeld}
use Rattle.track_c.specs.declared.fault.Fault.{Fault}
use Rattle.track_c.specs.declared.fault.Fault.TheVariants.{EmptyHandle, NoMemory, NoNode, NoSubscriber, OtherKind, PastEnd, CountTooLarge}

-- the crew that is held, if one is
abbrev pub crew_in : Held → Answer CrewHeld
crew_in nothing = Err EmptyHandle
crew_in (a_crew crew) = Ok crew
crew_in other = Err OtherKind

-- a new crew over a plan, of subscribers that start at these nodes, and so many callers: nobody has
-- taken a pass
pub record IsNewCrew (plan : PlanData) (starts : List ℕ) (callers : ℕ) (crew : CrewHeld) : Type 0 where
  pub setup : crew.tracker.setup ≡ setup_of plan starts (length starts + callers)
  pub fresh : AreFresh crew.tracker crew.passes
  pub count : length crew.passes ≡ length starts + callers

-- why there is none: the first of these that holds
abbrev pub IsCrewFault : PlanData → List ℕ → ℕ → Fault → Type 0
IsCrewFault plan starts callers NoSubscriber = length starts ≡ 0
IsCrewFault plan starts callers CountTooLarge =
    (1 ≤ length starts) × (length starts ≤ 64 → 64 < callers)
IsCrewFault plan starts callers NoNode =
    (1 ≤ length starts) × (length starts ≤ 64) × (callers ≤ 64)
    × (All (λ node. node < nodes_of plan) starts → ⊥)
IsCrewFault plan starts callers fault = ⊥

-- an answer to who asks for a crew over a plan
abbrev pub IsCrewOver : PlanData → List ℕ → ℕ → Answer Held → Type 0
IsCrewOver plan starts callers (Ok (a_crew crew)) = IsNewCrew plan starts callers crew
IsCrewOver plan starts callers (Ok other) = ⊥
IsCrewOver plan starts callers (Err fault) = IsCrewFault plan starts callers fault

-- and to who asks for one over what a handle holds
abbrev pub IsCrewAnswer : Answer PlanHeld → List ℕ → ℕ → Answer Held → Type 0
IsCrewAnswer (Ok held) starts callers answer = IsCrewOver held.plan starts callers answer
IsCrewAnswer (Err fault) starts callers answer = answer ≡ Err fault

-- a call told such an answer, and left a handle that was empty so; or there was no memory
abbrev pub MakesCrew : Answer PlanHeld → List ℕ → ℕ → ℕ → Held → Type 0
MakesCrew asked starts callers code now =
    ((code ≡ code_of NoMemory) × (now ≡ nothing))
    ⊎ ((answer : Answer Held) × IsCrewAnswer asked starts callers answer
    × Tells answer code nothing now)

-- the handset of a subscriber that has done nothing
abbrev pub handset_of : TrackerData → ℕ → HandsetData
handset_of tracker actor =
    handset_at tracker.setup.plan actor (start (setting_in tracker.setup) actor)

-- a subscriber's, which goes with its pass
pub record IsNewHandset (tracker : TrackerData) (actor : ℕ) (handset : HandsetData) : Type 0 where
  pub sub : actor < subs_in tracker.setup
  pub exact : handset ≡ handset_of tracker actor
  pub own : IsHandsetOf tracker.setup (fresh_view tracker.setup actor) handset

-- what the member with this pass holds: the first actors are the subscribers
abbrev pub member_of : TrackerData → PassData → Held
member_of tracker pass =
    if nat_lt (actor_of pass) (subs_in tracker.setup)
    then a_subscriber (record {
      tracker = tracker;
      pass = pass;
      handset = handset_of tracker (actor_of pass);
    })
    else a_caller (record { tracker = tracker; pass = pass })

-- the two handles and the place that a call for the next member is lent
pub record Handing : Type 0 where
  pub crew : Held
  pub member : Held
  pub actor : ℕ

abbrev pub handing : Held → Held → ℕ → Handing
handing crew member actor = record { crew = crew; member = member; actor = actor }

-- the last pass of a crew is handed out to its actor
pub record HandsOut (crew : CrewHeld) (now : Handing) : Type 0 where
  pub rest : List PassData
  pub pass : PassData
  pub last : crew.passes ≡ rest ++ pass ∷ []
  pub left : now.crew ≡ a_crew (record { tracker = crew.tracker; passes = rest })
  pub member_is : now.member ≡ member_of crew.tracker pass
  pub actor_is : now.actor ≡ actor_of pass

-- so it is of what a handle holds
abbrev pub HandsOf : Answer CrewHeld → Handing → Type 0
HandsOf (Ok crew) now = HandsOut crew now
HandsOf (Err fault) now = ⊥

-- a crew, where it has a pass left
abbrev pub unless_spent : CrewHeld → List PassData → Answer CrewHeld
unless_spent crew [] = Err PastEnd
unless_spent crew (pass ∷ more) = Ok crew

abbrev pub with_pass_left : CrewHeld → Answer CrewHeld
with_pass_left crew = unless_spent crew crew.passes

-- why a crew hands out no member
abbrev pub IsHandFault : Answer CrewHeld → Fault → Type 0
IsHandFault asked fault = (fault ≡ NoMemory) ⊎ (and_then asked with_pass_left ≡ Err fault)

-- a call for the next member, into a handle that was empty, told this code
abbrev pub HandsNext : ℕ → Handing → Handing → Type 0
HandsNext code before now =
    ((code ≡ 0) × HandsOf (crew_in before.crew) now)
    ⊎ ((fault : Fault) × (code ≡ code_of fault) × (now ≡ before)
    × IsHandFault (crew_in before.crew) fault)
