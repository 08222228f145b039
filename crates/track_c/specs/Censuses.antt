-- What a census of a caller answers, over the tracker that it shares: its ticket, and which
-- subscribers are at the node then.
-- Key law: `track_caller_census`, by its clause.
use Rattle.std.specs.Prelude.{◌≡◌, ◌≤◌, ◌<◌, ℕ, Ok, Err}
use Rattle.entry_word.specs.declared.visit.Act.TheVariants.{Census}
use Rattle.directory.specs.Census.{census}
use Rattle.directory.specs.Histories.{before}
use Rattle.station.specs.Passes.{PassData}
use Rattle.station.specs.Setup.{nodes_in, setting_in}
use Rattle.station.specs.Visits.{HasLost, HasVisited, IsCensus}
use Rattle.station.specs.declared.turns.Held.{Held as HeldTurn}
use Rattle.track_c.specs.Callers.{caller_in}
use Rattle.track_c.specs.Faults.{Answer, Tells}
use Rattle.track_c.specs.Held.{Held, a_caller}
use Rattle.track_c.specs.Members.{CallerHeld}
use Rattle.track_c.specs.declared.censuses.TrackCensus.{TrackCensus}
use Rattle.track_c.specs.declared.fault.Fault.{Fault}
use Rattle.track_c.specs.declared.fault.Fault.TheVariants as faults

-- why a census isn't made: the first of these that holds; only a lost turn changes the pass
abbrev pub IsCensusFault : CallerHeld → ℕ → Fault → PassData → Type 0
IsCensusFault caller node faults.NoNode pass =
    (nodes_in caller.tracker.setup ≤ node) × (pass ≡ caller.pass)
IsCensusFault caller node faults.Unreserved pass =
    (node < nodes_in caller.tracker.setup) × (caller.pass.spare ≡ 0) × (pass ≡ caller.pass)
IsCensusFault caller node faults.Held pass =
    (node < nodes_in caller.tracker.setup) × (1 ≤ caller.pass.spare)
    × ((turn : HeldTurn) × HasLost caller.pass node turn pass)
IsCensusFault caller node fault pass = ⊥

-- a census of a caller at a node answers this, and leaves its pass so
abbrev pub IsListed : CallerHeld → ℕ → Answer TrackCensus → PassData → Type 0
IsListed caller node (Ok told) pass =
    (node < nodes_in caller.tracker.setup) × (1 ≤ caller.pass.spare)
    × HasVisited caller.pass (Census node) told.ticket pass
    × IsCensus (census (setting_in caller.tracker.setup) (before told.ticket pass.view.seen) node)
    told.who told.count
IsListed caller node (Err fault) pass = IsCensusFault caller node fault pass

-- so does a census of what a handle holds
pub record Lists (caller : CallerHeld) (node : ℕ) (answer : Answer TrackCensus) (now : Held)
    : Type 0 where
  pub pass : PassData
  pub is : IsListed caller node answer pass
  pub left : now ≡ a_caller (record { tracker = caller.tracker; pass = pass })

abbrev pub IsCensusBy : Answer CallerHeld → ℕ → Answer TrackCensus → Held → Held → Type 0
IsCensusBy (Ok caller) node answer before now = Lists caller node answer now
IsCensusBy (Err fault) node answer before now = (answer ≡ Err fault) × (now ≡ before)

-- and its answer was told by this code, and in a place
pub record TellsCensus (before : Held) (node code : ℕ) (was told : TrackCensus) (now : Held)
    : Type 0 where
  pub answer : Answer TrackCensus
  pub is : IsCensusBy (caller_in before) node answer before now
  pub tells : Tells answer code was told
