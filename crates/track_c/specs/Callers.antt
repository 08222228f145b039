-- What the calls of a caller answer, over the tracker that it shares: a find, made at once; and
-- room for visits, which a subscriber reserves as well.
-- Key laws: `track_caller_find` and `track_actor_reserve`, by their clauses.
use Rattle.std.specs.Prelude.{◌≡◌, ◌+◌, ◌^◌, ℕ, nat_lt, if◌then◌else◌, length, max, Result, Ok, Err}
use Rattle.directory.specs.Finds.{FindCall}
use Rattle.directory.specs.declared.answers.Found.{Found}
use Rattle.station.specs.Passes.{PassData}
use Rattle.tracker_calls.specs.Finds.{HasFound, IsFindFault, MayFind}
use Rattle.tracker_calls.specs.declared.finds.FindFault.{FindFault}
use Rattle.tracker_calls.specs.declared.finds.FindFault.TheVariants as finds
use Rattle.track_c.specs.Faults.{Answer, Tells, and_then}
use Rattle.track_c.specs.Held.{Held, nothing, a_caller, a_subscriber}
use Rattle.track_c.specs.Members.{CallerHeld}
use Rattle.track_c.specs.Told.{answer_told}
use Rattle.track_c.specs.declared.cells.TrackAnswer.{TrackAnswer}
use Rattle.track_c.specs.declared.fault.Fault.{Fault}
use Rattle.track_c.specs.declared.fault.Fault.TheVariants as faults

-- the caller that is held, if one is
abbrev pub caller_in : Held → Answer CallerHeld
caller_in nothing = Err faults.EmptyHandle
caller_in (a_caller caller) = Ok caller
caller_in other = Err faults.OtherKind

-- a pass with room for so many visits; all that it has seen and these are at most 2^56
abbrev pub reserved : ℕ → PassData → Answer PassData
reserved visits pass =
    if nat_lt (2 ^ 56) (length pass.view.seen + visits) then Err faults.CountTooLarge
    else Ok (record pass { spare = max pass.spare visits })

-- what is held, with that room
abbrev pub after_reserve : ℕ → Held → Answer Held
after_reserve visits nothing = Err faults.EmptyHandle
after_reserve visits (a_caller caller) =
    and_then (reserved visits caller.pass) (λ pass. Ok (a_caller (record caller { pass = pass })))
after_reserve visits (a_subscriber subscriber) =
    and_then (reserved visits subscriber.pass)
    (λ pass. Ok (a_subscriber (record subscriber { pass = pass })))
after_reserve visits other = Err faults.OtherKind

-- why a find has no answer now
abbrev pub find_refusal : FindFault → Fault
find_refusal finds.NoNode = faults.NoNode
find_refusal finds.NoSubscriber = faults.NoSubscriber
find_refusal (finds.Unreserved need) = faults.Unreserved
find_refusal (finds.Held node by) = faults.Held

-- the outcome of a find, as C is told it
abbrev pub outcome_told : Result Found FindFault → Answer TrackAnswer
outcome_told (Ok found) = Ok (answer_told found)
outcome_told (Err fault) = Err (find_refusal fault)

-- a find of a caller has this outcome, and leaves its pass so
abbrev pub IsOutcome : CallerHeld → FindCall → Result Found FindFault → PassData → Type 0
IsOutcome caller call (Ok found) pass =
    MayFind caller.tracker.setup caller.pass call
    × HasFound caller.tracker.setup caller.pass call found pass
    × (pass.view.lost ≡ caller.pass.view.lost)
IsOutcome caller call (Err fault) pass =
    IsFindFault caller.tracker.setup caller.pass call fault pass

-- a find of a caller answers this, and leaves this
pub record Finds (caller : CallerHeld) (call : FindCall) (answer : Answer TrackAnswer) (now : Held)
    : Type 0 where
  pub outcome : Result Found FindFault
  pub pass : PassData
  pub is : IsOutcome caller call outcome pass
  pub told : answer ≡ outcome_told outcome
  pub left : now ≡ a_caller (record { tracker = caller.tracker; pass = pass })

-- so does a find of what a handle holds
abbrev pub IsFindOf : Answer CallerHeld → FindCall → Answer TrackAnswer → Held → Held → Type 0
IsFindOf (Ok caller) call answer before now = Finds caller call answer now
IsFindOf (Err fault) call answer before now = (answer ≡ Err fault) × (now ≡ before)

-- and its answer was told by this code, and in a place
pub record TellsFind (before : Held) (call : FindCall) (code : ℕ) (was told : TrackAnswer)
    (now : Held) : Type 0 where
  pub answer : Answer TrackAnswer
  pub is : IsFindOf (caller_in before) call answer before now
  pub tells : Tells answer code was told
