-- What closing a tracker gives: the actor of each ticket of the one history. Key law:
-- `Tracker::close`, by its clauses `order`, `present` and `fault`.
use Rattle.std.specs.Prelude.{◌≡◌, ◌≢◌, ℕ, ◌<◌, ◌≤◌, List, [], map, Some, slice_get}
use Rattle.entry_word.specs.declared.visit.Visit.{Visit}
use Rattle.directory.specs.Histories.{History, IsFront, own}
use Rattle.directory.specs.Legal.{IsLegal}
use Rattle.station.specs.Setup.{Setup, setting_in, subs_in}
use Rattle.station.specs.Passes.{PassData, actor_of}
use Rattle.station.specs.declared.closing.CloseCause.{CloseCause}
use Rattle.station.specs.declared.closing.CloseCause.TheVariants.{Missing, OutOfMemory}

-- the actors in order of their tickets are those of a legal history, which goes on from what each
-- pass has seen, and in which each actor has just the visits of its pass
pub record IsOrder (setup : Setup) (passes : List PassData) (order : List ℕ) : Type 0 where
  pub history : History
  pub actors : order ≡ map (λ (visit : Visit). visit.actor) history
  pub seen : (k : ℕ) (pass : PassData) → slice_get passes k ≡ Some pass
      → IsFront pass.view.seen history
  pub visits : (k : ℕ) (pass : PassData) → slice_get passes k ≡ Some pass
      → own (actor_of pass) history ≡ own (actor_of pass) pass.view.seen
  pub known : (actor : ℕ) → setup.actors ≤ actor → own actor history ≡ []
  pub legal : (sub : ℕ) → sub < subs_in setup → IsLegal (setting_in setup) sub history

-- no pass of an actor is among these
abbrev pub HasNoPass : List PassData → ℕ → Type 0
HasNoPass passes actor =
    (k : ℕ) (pass : PassData) → slice_get passes k ≡ Some pass → actor_of pass ≢ actor

-- each of the first actors has a pass among these
abbrev pub ArePresent : ℕ → List PassData → Type 0
ArePresent actors passes = (actor : ℕ) → actor < actors → ¬ HasNoPass passes actor

-- why a tracker isn't closed: the first actor that is missing, or want of memory where none is
abbrev pub IsCause : ℕ → List PassData → CloseCause → Type 0
IsCause actors passes (Missing actor) =
    (actor < actors) × HasNoPass passes actor × ArePresent actor passes
IsCause actors passes OutOfMemory = ArePresent actors passes

-- a history goes on from what each of these passes has seen, by known actors alone, and is legal
pub record HasGathered (setup : Setup) (passes : List PassData) (history : History) : Type 0 where
  pub seen : (k : ℕ) (pass : PassData) → slice_get passes k ≡ Some pass
      → IsFront pass.view.seen history
  pub known : (actor : ℕ) → setup.actors ≤ actor → own actor history ≡ []
  pub legal : (sub : ℕ) → sub < subs_in setup → IsLegal (setting_in setup) sub history
