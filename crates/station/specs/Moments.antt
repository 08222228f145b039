-- When an event comes into the log of turns: at the very step that makes it one of a view's own. So
-- no step can add a turn that was lost earlier, or that nobody has: whatever the step is, just
-- before it the lock word of the node is that of the other actor, whose pass is inside the node.
-- Nor does the rule allow a step that tells a lost turn by another word than the lock has.
-- And of a whole call, whatever its steps are: each event that the view has logged meanwhile came
-- at a step of the call, and just before that step the locks were as the event says.
-- Key laws: `events_come_now` (of a step), `lost_turns_are_read` (of what a step may tell),
-- `events_come_within_calls` (of a call).
use Rattle.std.specs.Prelude.{◌≡◌, ◌≢◌, ◌⊎◌, ℕ, suc, ◌^◌, ◌<◌, ◌≤◌, Bool, true, List, ◌∷◌, ◌++◌, length, Some, slice_index, slice_set}
use Rattle.atomic_table.specs.Table.{Allows, Me, State}
use Rattle.entry_word.specs.declared.visit.Act.{Act}
use Rattle.station.specs.Setup.{Setup, nodes_in, lock_word}
use Rattle.station.specs.Turns.{Logs, event_actor, lock_in}
use Rattle.station.specs.Rule.{KeepsRule, IsViewOf}
use Rattle.station.specs.declared.view.TurnEvent.{TurnEvent}
use Rattle.station.specs.declared.view.TurnEvent.TheVariants.{Won, GivenBack, Lost}
use Rattle.station.specs.declared.view.View.{View}

-- the locks of a state are as a log leaves them: each lock word, and that the pass of the actor
-- whose turn it is at a node is inside the node
pub record HasLocks (setup : Setup) (state : State Act View) (log : List TurnEvent) : Type 0 where
  pub words : (node : ℕ) → node < nodes_in setup
      → slice_index state.words (lock_word node) ≡ lock_in log node
  pub inside : (node actor : ℕ) → node < nodes_in setup → lock_in log node ≡ suc actor
      → (seat : ℕ) × (view : View) × IsViewOf state.views seat view × (view.inside ≡ Some node)
      × (view.low ≡ actor)

-- where the rule holds before and after a step, whatever it is, and the step brings an event of its
-- seat's own actor into the log: before the step the locks are as the log behind which the event
-- comes leaves them
abbrev pub EventsComeNow : Type 0
EventsComeNow =
    (setup : Setup) (old new : State Act View) (seat : ℕ) (before after : View)
    (event : TurnEvent) → KeepsRule setup old → KeepsRule setup new
    → IsViewOf old.views seat before → new.views ≡ slice_set old.views seat after
    → before.high ≡ suc before.low → after.low ≡ before.low → after.high ≡ before.high
    → event_actor event ≡ before.low → (logs : Logs before.turns event after.turns)
    → HasLocks setup old (before.turns ++ logs.later)

-- a step tells of some numbers found that a turn at the node is lost, and to which lock word: its
-- seat stands for the same actor afterwards, and has logged it so
abbrev pub TellsLost : Me Act View → ℕ → (ℕ → Bool) → (ℕ → ℕ) → ℕ → Me Act View → Type 0
TellsLost before node is_told word found after =
    is_told found ≡ true
    → (after.0.low ≡ before.0.low) × (after.0.high ≡ before.0.high)
    × Logs before.0.turns (Lost before.0.low node (word found)) after.0.turns

-- the rule allows a step to tell so only where it is true. Whatever word of the table the step is
-- at, and whatever it makes of it: where it tells a lost turn, the lock word of the node is the one
-- that it tells, which isn't 0, and isn't that of its own actor
abbrev pub LostTurnsAreRead : Type 0
LostTurnsAreRead =
    (setup : Setup) (slots seat place node : ℕ) (is_told : ℕ → Bool) (change word : ℕ → ℕ)
    (before : Me Act View) (state : State Act View) → node < nodes_in setup
    → before.0.high ≡ suc before.0.low → Allows (KeepsRule setup) slots seat before place change
    (TellsLost before node is_told word) → KeepsRule setup state → length state.homes ≡ slots
    → IsViewOf state.views seat before.0 → slice_index state.words place < 2 ^ 64
    → is_told (slice_index state.words place) ≡ true
    → (slice_index state.words (lock_word node) ≡ word (slice_index state.words place))
    × (word (slice_index state.words place) ≢ 0)
    × (word (slice_index state.words place) ≢ suc before.0.low)

-- an event stands in a log, behind these
abbrev pub IsLoggedAt : List TurnEvent → TurnEvent → List TurnEvent → Type 0
IsLoggedAt earlier event log = (later : List TurnEvent) × (log ≡ earlier ++ event ∷ later)

-- no pass but the actor's own is inside a node
abbrev pub AreOthersOut : State Act View → ℕ → ℕ → Type 0
AreOthersOut state actor node =
    (seat : ℕ) (view : View) → IsViewOf state.views seat view → view.inside ≡ Some node
    → view.low ≡ actor

-- a lock word names another actor, whose pass is inside the node
abbrev pub IsAnothers : State Act View → ℕ → ℕ → ℕ → Type 0
IsAnothers state actor node word =
    (word ≢ suc actor) × (slice_index state.words (lock_word node) ≡ word)
    × (seat : ℕ) × (view : View) × IsViewOf state.views seat view × (view.inside ≡ Some node)
    × (suc view.low ≡ word)

-- the locks of a state are as an event says: a turn is won and given back while no other pass is
-- inside the node, and lost while the one that the word names is
abbrev pub IsMoment : Setup → State Act View → TurnEvent → Type 0
IsMoment setup state (Won actor node) = AreOthersOut state actor node
IsMoment setup state (GivenBack actor node) = AreOthersOut state actor node
IsMoment setup state (Lost actor node word) =
    node < nodes_in setup → IsAnothers state actor node word

-- a step of a seat's own: no other view changes, and its view stands for the one actor as before
pub record IsStepOf (seat : ℕ) (old new : State Act View) : Type 0 where
  pub before : View
  pub after : View
  pub was : IsViewOf old.views seat before
  pub views : new.views ≡ slice_set old.views seat after
  pub alone : before.high ≡ suc before.low
  pub low : after.low ≡ before.low
  pub high : after.high ≡ before.high

-- a step of others: the view of the seat stays
abbrev pub IsStepBeside : ℕ → State Act View → State Act View → Type 0
IsStepBeside seat old new =
    (view : View) → IsViewOf new.views seat view → IsViewOf old.views seat view

-- the states through which a table goes while a seat makes a call: the rule holds of each, and each
-- comes from the one before by a step of the seat's own or of others, whatever it is
pub record GoesThrough (setup : Setup) (seat count : ℕ) (states : ℕ → State Act View)
    : Type 0 where
  pub keeps : (step : ℕ) → step ≤ count → KeepsRule setup (states step)
  pub steps : (step : ℕ) → step < count → IsStepOf seat (states step) (states (suc step))
      ⊎ IsStepBeside seat (states step) (states (suc step))

-- an event comes at a step of the seat's own: its view has it then, behind these events, and hadn't
-- before; and just before the step the locks are as it says
pub record ComesAt (setup : Setup) (seat : ℕ) (earlier : List TurnEvent) (event : TurnEvent)
    (old new : State Act View) : Type 0 where
  pub own : IsStepOf seat old new
  pub absent : IsLoggedAt earlier event own.before.turns → ⊥
  pub there : IsLoggedAt earlier event own.after.turns
  pub moment : IsMoment setup old event

-- each event of its actor that a view has after a call, behind all that it had before it, came at a
-- step of the call
abbrev pub EventsComeWithinCalls : Type 0
EventsComeWithinCalls =
    (setup : Setup) (seat count : ℕ) (states : ℕ → State Act View) (before after : View)
    (earlier : List TurnEvent) (event : TurnEvent) → GoesThrough setup seat count states
    → IsViewOf (states 0).views seat before → IsViewOf (states count).views seat after
    → event_actor event ≡ after.low → length before.turns ≤ length earlier
    → IsLoggedAt earlier event after.turns
    → (step : ℕ) × (step < count)
    × ComesAt setup seat earlier event (states step) (states (suc step))
