-- The rule of a tracker: there is one history of all visits, and between any two steps these parts
-- hold of it, of the words and of all views.
--
-- Nobody but the view inside a node writes a word of that node, since its lock word names the actor
-- for which the view stands, and each actor has one seat. So no later visit at the node can come
-- between a ticket that was drawn there and the word that goes with it.
--
-- Key law: `Tracker::witness`, by its clause `rule` (a state meets it).
use Rattle.std.specs.Prelude.{◌≡◌, ◌≢◌, ℕ, suc, ◌^◌, ◌<◌, ◌≤◌, true, List, [], length, Some, slice_index}
use mathlib.Core.Option.{some}
use lib.ListN.{get_elem?}
use Rattle.atomic_table.specs.Table.{State}
use Rattle.entry_word.specs.declared.visit.Key.{Key}
use Rattle.entry_word.specs.declared.visit.Act.{Act}
use Rattle.directory.specs.Histories.{History, cell, own}
use Rattle.directory.specs.Legal.{IsLegal}
use Rattle.directory.specs.Census.{census}
use Rattle.station.specs.Setup.{Setup, setting_in, nodes_in, subs_in, IsCellOf, CellsLie, lock_word, tally_word, cell_word, word_count}
use Rattle.station.specs.Views.{IsSoundView, StandsForActor}
use Rattle.station.specs.Turns.{HasLogged, IsLog, events_of, lock_in}
use Rattle.station.specs.declared.view.TurnEvent.{TurnEvent}
use Rattle.station.specs.declared.view.View.{View}

-- the view of a seat
abbrev pub IsViewOf : List View → ℕ → View → Type 0
IsViewOf views seat view = get_elem? views seat ≡ some view

-- a view stands for the actor, at its owner's seat
abbrev pub IsOwned : List View → (ℕ → ℕ) → ℕ → Type 0
IsOwned views owner actor =
    (view : View) × IsViewOf views (owner actor) view × StandsForActor view actor

-- the pass of an actor is inside a node
abbrev pub IsHeld : List View → (ℕ → ℕ) → ℕ → ℕ → Type 0
IsHeld views owner node actor =
    (view : View) × IsViewOf views (owner actor) view × (view.inside ≡ Some node)
    × (view.low ≡ actor)

-- no view has a put into this cell that isn't written
abbrev pub IsCellWritten : List View → Key → Type 0
IsCellWritten views key =
    (seat : ℕ) (view : View) → IsViewOf views seat view → view.unwritten ≢ Some key

-- no view owes the tally of this node
abbrev pub IsTallied : List View → ℕ → Type 0
IsTallied views node =
    (seat : ℕ) (view : View) → IsViewOf views seat view → view.owes ≡ true
    → view.inside ≢ Some node

-- the rule, of a state's words and views: there is a history, and an owner of each actor, of which
-- all this holds
pub record KeepsRule (setup : Setup) (state : State Act View) : Type 0 where
  pub history : History
  -- the seat that stands for an actor
  pub owner : ℕ → ℕ
  pub lies : CellsLie setup
  pub size : length state.words ≡ word_count setup
  pub few_actors : setup.actors ≤ 128
  -- the ticket word counts the visits
  pub tickets : slice_index state.words 0 ≡ length history
  pub views : (seat : ℕ) (view : View) → IsViewOf state.views seat view
      → IsSoundView setup state.words history owner seat view
  -- each actor has its seat, nobody else has a visit, and each has few
  pub actors : (actor : ℕ) → actor < setup.actors → IsOwned state.views owner actor
  pub known : (actor : ℕ) → setup.actors ≤ actor → own actor history ≡ []
  pub few : (actor : ℕ) → length (own actor history) ≤ 2 ^ 56
  -- a lock word names an actor only while its pass is inside the node
  pub locks : (node actor : ℕ) → node < nodes_in setup
      → slice_index state.words (lock_word node) ≡ suc actor → IsHeld state.views owner node actor
  -- there is a log of turns, of known actors alone; each lock word is as it leaves it; and each
  -- view has logged what its actors did, and has lost the turns that it has logged as lost
  pub turns : List TurnEvent
  pub in_turn : IsLog turns
  pub strangers : (actor : ℕ) → setup.actors ≤ actor → events_of actor turns ≡ []
  pub lock_words : (node : ℕ) → node < nodes_in setup
      → slice_index state.words (lock_word node) ≡ lock_in turns node
  pub logged : (seat : ℕ) (view : View) → IsViewOf state.views seat view → HasLogged turns view
  -- a cell holds what the history leaves there, and a tally counts who is at its node
  pub cells : (key : Key) → IsCellOf setup key → IsCellWritten state.views key
      → slice_index state.words (cell_word setup key) ≡ cell (setting_in setup) history key
  pub tallies : (node : ℕ) → node < nodes_in setup → IsTallied state.views node
      → slice_index state.words (tally_word setup node)
      ≡ length (census (setting_in setup) history node)
  pub legal : (sub : ℕ) → sub < subs_in setup → IsLegal (setting_in setup) sub history
