-- What one view knows, and what the rule says of it. A view stands for the actors from the lowest
-- on, up to another: for one of them while the tracker is open. A note's view stands for none.
-- What an actor has visited is what its view has seen of it.
-- Key law: `Tracker::witness`, by its clause `rule`: the rule says so of the view of each pass.
use Rattle.std.specs.Prelude.{◌≡◌, ◌≢◌, ℕ, suc, ◌<◌, ◌≤◌, true, false, List, [], ◌∷◌, ◌++◌, length, drop, Some, None, slice_index, ◌==◌}
use Rattle.std.specs.List.{Contains, filter}
use Rattle.entry_word.specs.declared.visit.Key.{Key}
use Rattle.entry_word.specs.declared.visit.Act.TheVariants.{Put}
use Rattle.entry_word.specs.declared.visit.Visit.{Visit}
use Rattle.directory.specs.Settings.{Setting}
use Rattle.directory.specs.Keys.{act_node, key_node}
use Rattle.directory.specs.Histories.{History, IsFront, cell, changes_here, own}
use Rattle.directory.specs.Census.{census}
use Rattle.station.specs.Setup.{Setup, setting_in, nodes_in, IsCellOf, lock_word, tally_word, cell_word}
use Rattle.station.specs.declared.view.NodeTurn.{NodeTurn}
use Rattle.station.specs.declared.view.View.{View}

-- the visits at a node
abbrev pub visits_at : Setting → ℕ → History → List Visit
visits_at setting node history = filter (λ visit. act_node setting visit.act == node) history

-- a view stands for an actor
abbrev pub StandsForActor : View → ℕ → Type 0
StandsForActor view actor = (view.low ≤ actor) × (actor < view.high)

-- what a view has seen, what it had seen before it was told more, and what it was told, are fronts
-- of the history; and all visits of the actors that it stands for are among what it has seen, and
-- among what it had seen
pub record HasSeen (history : History) (view : View) : Type 0 where
  pub seen : IsFront view.seen history
  pub told : IsFront view.told history
  pub had : IsFront view.had history
  pub visits : (actor : ℕ) → StandsForActor view actor → own actor history ≡ own actor view.seen
  pub kept : (actor : ℕ) → StandsForActor view actor → own actor history ≡ own actor view.had

-- a turn at a node with the word of its lock
abbrev pub turn_at : ℕ → ℕ → NodeTurn
turn_at node word = record { node = node; word = word }

-- a view has drawn its ticket at a node: after some earlier visits comes its own, of the act that
-- it means to do there; it counts them and its own, and no later visit is at the node. What isn't
-- written is what that act puts, and the word before is what the earlier visits left in the cell;
-- it owes the tally only if the act changes it, and the tally before is the count of the census
-- after the earlier visits
pub record HasDrawn (setup : Setup) (history : History) (view : View) (node : ℕ) : Type 0 where
  pub earlier : History
  pub visit : Visit
  pub begins : IsFront (earlier ++ visit ∷ []) history
  pub mine : visit.actor ≡ view.low
  pub meant : view.intended ≡ Some visit.act
  pub at : act_node (setting_in setup) visit.act ≡ node
  pub count : view.visit_count ≡ suc (length earlier)
  pub last : visits_at (setting_in setup) node (drop view.visit_count history) ≡ []
  pub put : (key : Key) → view.unwritten ≡ Some key → (word : ℕ) × (visit.act ≡ Put key word)
  pub word : (key : Key) → view.unwritten ≡ Some key
      → view.before ≡ cell (setting_in setup) earlier key
  pub moves : view.owes ≡ true → changes_here (setting_in setup) earlier visit.act ≡ true
  pub tally : view.owes ≡ true → view.tally ≡ length (census (setting_in setup) earlier node)

-- a view is inside a node: it stands for one actor, and the lock word names that actor; a drawn
-- ticket is that of its visit there; and while it owes the tally, which it does only behind its
-- ticket, the tally word still has the tally before
pub record IsInsideNode (setup : Setup) (words : List ℕ) (history : History) (view : View)
    (node : ℕ) : Type 0 where
  pub known : node < nodes_in setup
  pub alone : view.high ≡ suc view.low
  pub lock : slice_index words (lock_word node) ≡ suc view.low
  pub drawn : view.has_drawn ≡ true → HasDrawn setup history view node
  pub owed : view.owes ≡ true → view.has_drawn ≡ true
  pub tally : view.owes ≡ true → slice_index words (tally_word setup node) ≡ view.tally

-- a view has a put that isn't written: into a cell of the node that it is inside, once it has drawn
-- its ticket there, and the cell holds the word before the put
pub record HasUnwritten (setup : Setup) (words : List ℕ) (view : View) (key : Key) : Type 0 where
  pub cell : IsCellOf setup key
  pub inside : view.inside ≡ Some (key_node (setting_in setup) key)
  pub drawn : view.has_drawn ≡ true
  pub word : slice_index words (cell_word setup key) ≡ view.before

-- what the rule says of the view of a seat: it holds the one setup, unless it is spent; the seat is
-- the owner of its actors; it draws its ticket, and owes a tally, only inside a node; and no turn
-- that it has lost is one of its own actors
pub record IsSoundView (setup : Setup) (words : List ℕ) (history : History) (owner : ℕ → ℕ)
    (seat : ℕ) (view : View) : Type 0 where
  pub setup_is : view.is_spent ≡ false → view.setup ≡ setup
  pub has : HasSeen history view
  pub owner_is : (actor : ℕ) → StandsForActor view actor
      → (owner actor ≡ seat) × (actor < setup.actors)
  pub inside : (node : ℕ) → view.inside ≡ Some node
      → IsInsideNode setup words history view node
  pub unwritten : (key : Key) → view.unwritten ≡ Some key → HasUnwritten setup words view key
  pub outside : view.inside ≡ None → (view.has_drawn ≡ false) × (view.owes ≡ false)
  pub others : (actor : ℕ) → StandsForActor view actor → (turn : NodeTurn)
      → Contains view.lost turn → turn.word ≢ suc actor
