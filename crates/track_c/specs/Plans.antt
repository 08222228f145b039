-- What a plan is made of: the text of a network. A text that is refused tells the line of its first
-- fault, its cause and, where a node is apart, the node.
-- Key laws: `track_plan_read`, `track_plan_share`, `track_plan_sizes` and `track_plan_start`, by
-- their clauses.
use Rattle.std.specs.Prelude.{◌≡◌, ◌<◌, ◌≤◌, ℕ, List, length, nat_le, if◌then◌else◌, slice_index, Result, Ok, Err}
use Rattle.net_graph.specs.Network.{IsGraphOf, Network as Graph}
use Rattle.net_reader.specs.Input.{Contents, IsInput}
use Rattle.net_reader.specs.Reading.{most_bytes}
use Rattle.net_reader.specs.declared.fault.InputCause.{InputCause}
use Rattle.net_reader.specs.declared.fault.InputCause.TheVariants.{Form, TooLarge, TooMany, Unknown, Switched, Nowhere, Unfinished, Apart}
use Rattle.net_reader.specs.declared.fault.InputFault.{InputFault}
use Rattle.region_plan.specs.Plan.{levels_of, nodes_of}
use Rattle.region_plan.specs.Regions.{plan_of}
use Rattle.track_c.specs.Faults.{Answer, code_of}
use Rattle.track_c.specs.Held.{Held, PlanHeld, a_caller, a_crew, a_finder, a_mover, a_plan, a_subscriber, nothing, seen_network, seen_object}
use Rattle.track_c.specs.declared.fault.Fault.{Fault}
use Rattle.track_c.specs.declared.fault.Fault.TheVariants.{BadNetwork, EmptyHandle, FullHandle, NoMemory, NoSubscriber}
use Rattle.track_c.specs.declared.object.Network.{Network}
use Rattle.track_c.specs.declared.object.Object.{Object}
use Rattle.track_c.specs.declared.plans.Unmade.{Unmade}
use Rattle.track_c.specs.declared.plans.Unmade.TheVariants as unmade
use Rattle.track_c.specs.declared.plans.TrackRefusal.{TrackRefusal}
use Rattle.track_c.specs.declared.plans.TrackSizes.{TrackSizes}

-- the number of a cause
abbrev pub cause_told : InputCause → ℕ
cause_told Form = 1
cause_told TooLarge = 2
cause_told TooMany = 3
cause_told Unknown = 4
cause_told Switched = 5
cause_told Nowhere = 6
cause_told Unfinished = 7
cause_told (Apart node) = 8

-- the node that a cause names
abbrev pub apart_told : InputCause → ℕ
apart_told Form = 0
apart_told TooLarge = 0
apart_told TooMany = 0
apart_told Unknown = 0
apart_told Switched = 0
apart_told Nowhere = 0
apart_told Unfinished = 0
apart_told (Apart node) = node

-- a fault of a text
abbrev pub fault_told : InputFault → TrackRefusal
fault_told fault =
    record { cause = cause_told fault.cause; line = fault.line; node = apart_told fault.cause }

-- a text that is too long to be read
abbrev pub too_long : TrackRefusal
too_long = record { cause = 9; line = 0; node = 0 }

-- the plan of the network that a text says, and where its subscribers start
pub record IsPlanOfText (text : List ℕ) (held : PlanHeld) : Type 0 where
  pub contents : Contents
  pub input : IsInput text (Ok contents)
  pub graph : Graph
  pub of : IsGraphOf contents.nodes contents.edges graph
  pub plan : held.plan ≡ plan_of graph contents.k
  pub starts : held.starts ≡ contents.homes

-- a text has this fault
pub record HasFault (text : List ℕ) (refusal : TrackRefusal) : Type 0 where
  pub fault : InputFault
  pub input : IsInput text (Err fault)
  pub told : refusal ≡ fault_told fault

-- why a text is refused
pub record IsTextRefusal (text : List ℕ) (refusal : TrackRefusal) : Type 0 where
  pub long : most_bytes < length text → refusal ≡ too_long
  pub wrong : length text ≤ most_bytes → HasFault text refusal

-- what a call makes of a network: its plan; or a refusal, told beside; or nothing, for want of
-- memory
pub data Makes (IsPlan : PlanHeld → Type 0) (IsRefusal : TrackRefusal → Type 0) (code : ℕ)
    (now : Held) (before after : TrackRefusal) : Type 0 where
  made : (held : PlanHeld) → IsPlan held → code ≡ 0 → now ≡ a_plan held → after ≡ before
      → Makes IsPlan IsRefusal code now before after
  refused : IsRefusal after → code ≡ code_of BadNetwork → now ≡ nothing
      → Makes IsPlan IsRefusal code now before after
  no_memory : code ≡ code_of NoMemory → now ≡ nothing → after ≡ before
      → Makes IsPlan IsRefusal code now before after

-- how large a plan is, and how many subscribers its text says
abbrev pub sizes_told : PlanHeld → Answer TrackSizes
sizes_told held =
    Ok (record {
      nodes = nodes_of held.plan;
      levels = levels_of held.plan;
      k = held.plan.k;
      subs = length held.starts;
    })

-- where a subscriber of the text starts
abbrev pub start_told : ℕ → PlanHeld → Answer ℕ
start_told sub held =
    if nat_le (length held.starts) sub then Err NoSubscriber
    else Ok (slice_index held.starts sub)

-- the code of a close
abbrev pub closing_code : Held → ℕ
closing_code nothing = code_of EmptyHandle
closing_code (a_plan plan) = 0
closing_code (a_finder finder) = 0
closing_code (a_mover mover) = 0
closing_code (a_crew crew) = 0
closing_code (a_caller caller) = 0
closing_code (a_subscriber subscriber) = 0

-- the same plan
abbrev pub same_plan : PlanHeld → Answer Held
same_plan held = Ok (a_plan held)

-- the handle was full, and nothing has changed
pub record WasFull (code : ℕ) (old new : Held) (before after : TrackRefusal) : Type 0 where
  pub is_full : code ≡ code_of FullHandle
  pub kept : new ≡ old
  pub still : after ≡ before

-- why no plan was made
abbrev pub IsUnmade : (TrackRefusal → Type 0) → Unmade → Type 0
IsUnmade IsRefusal unmade.NoMemory = Unit {0}
IsUnmade IsRefusal (unmade.Refused refusal) = IsRefusal refusal

-- what is to go into a handle, and the refusal where nothing is
abbrev pub IsAlmostMade : Result Network Unmade → Result Object Fault → TrackRefusal → TrackRefusal
    → Type 0
IsAlmostMade (Ok network) (Ok object) before after =
    (seen_object object ≡ a_plan (seen_network network)) × (after ≡ before)
IsAlmostMade (Ok network) (Err fault) before after = (fault ≡ NoMemory) × (after ≡ before)
IsAlmostMade (Err unmade.NoMemory) (Ok object) before after = ⊥
IsAlmostMade (Err unmade.NoMemory) (Err fault) before after = (fault ≡ NoMemory) × (after ≡ before)
IsAlmostMade (Err (unmade.Refused refusal)) (Ok object) before after = ⊥
IsAlmostMade (Err (unmade.Refused refusal)) (Err fault) before after =
    (fault ≡ BadNetwork) × (after ≡ refusal)
