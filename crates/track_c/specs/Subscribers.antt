-- What the calls of a subscriber answer, over the tracker that it shares: it begins a move or a
-- switch, and makes its puts one by one.
-- Key laws: `track_subscriber_move`, `track_subscriber_switch` and `track_subscriber_step`, by
-- their clauses.
use Rattle.std.specs.Prelude.{◌≡◌, ℕ, Bool, [], Option, Some, None, Result, Ok, Err}
use Rattle.handset.specs.Beginning.{begin_move, move_fault, switch_fault}
use Rattle.handset.specs.Condition.{HandsetData}
use Rattle.handset.specs.declared.fault.MoveFault.{MoveFault}
use Rattle.handset.specs.declared.fault.SwitchFault.{SwitchFault}
use Rattle.handset.specs.declared.stage.Stage.TheVariants.{Switching}
use Rattle.region_plan.specs.Settings.{setting_of}
use Rattle.station.specs.Passes.{PassData}
use Rattle.tracker_calls.specs.Moves.{HasStepped, IsStepFault}
use Rattle.tracker_calls.specs.declared.moves.StepFault.{StepFault}
use Rattle.tracker_calls.specs.declared.moves.StepFault.TheVariants as steps
use Rattle.track_c.specs.Faults.{Answer, Tells}
use Rattle.track_c.specs.Held.{Held, nothing, a_subscriber}
use Rattle.track_c.specs.Members.{SubscriberHeld}
use Rattle.track_c.specs.Moves.{move_refusal, switch_refusal}
use Rattle.track_c.specs.declared.fault.Fault.{Fault}
use Rattle.track_c.specs.declared.fault.Fault.TheVariants as faults

-- the subscriber that is held, if one is
abbrev pub subscriber_in : Held → Answer SubscriberHeld
subscriber_in nothing = Err faults.EmptyHandle
subscriber_in (a_subscriber subscriber) = Ok subscriber
subscriber_in other = Err faults.OtherKind

-- the subscriber with this handset
abbrev pub its_with : SubscriberHeld → HandsetData → Held
its_with subscriber handset = a_subscriber (record subscriber { handset = handset })

-- a subscriber whose move begins, unless it is refused
abbrev pub moving_unless : SubscriberHeld → ℕ → Option MoveFault → Answer Held
moving_unless subscriber to (Some fault) = Err (move_refusal fault)
moving_unless subscriber to None =
    Ok (its_with subscriber
    (begin_move (setting_of subscriber.tracker.setup.plan []) subscriber.handset to))

-- a subscriber that is told to move
abbrev pub begun_move : ℕ → SubscriberHeld → Answer Held
begun_move to subscriber =
    moving_unless subscriber to (move_fault subscriber.tracker.setup.plan subscriber.handset to)

-- a subscriber whose switch begins, unless it is refused
abbrev pub switching_unless : SubscriberHeld → Bool → Option SwitchFault → Answer Held
switching_unless subscriber off (Some fault) = Err (switch_refusal fault)
switching_unless subscriber off None =
    Ok (its_with subscriber (record subscriber.handset { stage = Switching off }))

-- a subscriber that is told to switch off, or on
abbrev pub begun_switch : Bool → SubscriberHeld → Answer Held
begun_switch off subscriber =
    switching_unless subscriber off (switch_fault subscriber.handset off)

-- why a put isn't made
abbrev pub step_refusal : StepFault → Fault
step_refusal steps.AtRest = faults.AtRest
step_refusal (steps.Unreserved need) = faults.Unreserved
step_refusal (steps.Held node by) = faults.Held

-- the outcome of a put, as C is told it: its ticket
abbrev pub step_told : Result ℕ StepFault → Answer ℕ
step_told (Ok ticket) = Ok ticket
step_told (Err fault) = Err (step_refusal fault)

-- a put of a subscriber has this outcome, and leaves its pass and its handset so
abbrev pub IsStep : SubscriberHeld → Result ℕ StepFault → PassData → HandsetData → Type 0
IsStep subscriber (Ok ticket) pass handset =
    HasStepped subscriber.tracker.setup subscriber.pass subscriber.handset ticket pass handset
IsStep subscriber (Err fault) pass handset =
    IsStepFault subscriber.tracker.setup subscriber.pass subscriber.handset fault pass
    × (handset ≡ subscriber.handset)

-- a put of a subscriber answers this, and leaves this
pub record Steps (subscriber : SubscriberHeld) (answer : Answer ℕ) (now : Held) : Type 0 where
  pub outcome : Result ℕ StepFault
  pub pass : PassData
  pub handset : HandsetData
  pub is : IsStep subscriber outcome pass handset
  pub told : answer ≡ step_told outcome
  pub left : now ≡ a_subscriber (record {
    tracker = subscriber.tracker;
    pass = pass;
    handset = handset;
  })

-- so does a put of what a handle holds
abbrev pub IsStepOf : Answer SubscriberHeld → Answer ℕ → Held → Held → Type 0
IsStepOf (Ok subscriber) answer before now = Steps subscriber answer now
IsStepOf (Err fault) answer before now = (answer ≡ Err fault) × (now ≡ before)

-- and its answer was told by this code, and in a place
pub record TellsStep (before : Held) (code was told : ℕ) (now : Held) : Type 0 where
  pub answer : Answer ℕ
  pub is : IsStepOf (subscriber_in before) answer before now
  pub tells : Tells answer code was told
