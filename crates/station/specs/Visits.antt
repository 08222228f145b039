-- What a visit needs, and what it does to a view and to a pass. Key laws: `visit_look` (`looked`),
-- `visit_put` (`made`), `visit_census` (`seen`), `hear` (`heard`).
use Rattle.std.specs.Prelude.{◌≡◌, ◌≢◌, ℕ, suc, ◌+◌, ◌^◌, ◌<◌, ◌≤◌, true, false, List, [], ◌∷◌, ◌++◌, length, map, if◌then◌else◌, Some, None}
use Rattle.std.specs.Int.{bit_at}
use Rattle.node_set.specs.Ascending.{has}
use Rattle.atomic_table.specs.Table.{Me}
use Rattle.entry_word.specs.declared.visit.Key.{Key}
use Rattle.entry_word.specs.declared.visit.Act.{Act}
use Rattle.directory.specs.Keys.{act_node}
use Rattle.directory.specs.Histories.{History, IsFront, own}
use Rattle.directory.specs.Legal.{IsLegal}
use Rattle.directory.specs.Settings.{Setting}
use Rattle.station.specs.Setup.{setting_in, subs_in, IsCellOf}
use Rattle.station.specs.Plays.{Draws, MayDo, key_put, longer, visit_by, view_held, view_inside}
use Rattle.station.specs.Passes.{NoteData, PassData, actor_of}
use Rattle.station.specs.Turns.{HasHadTurn, Logs, LogsAll, lost_in}
use Rattle.station.specs.declared.turns.Held.{Held}
use Rattle.station.specs.declared.view.TurnEvent.{TurnEvent}
use Rattle.station.specs.declared.view.TurnEvent.TheVariants.{GivenBack, Lost, Won}
use Rattle.station.specs.declared.view.View.{View}

-- a view may draw the ticket of an act at a node
pub record MayDraw (view : View) (node : ℕ) (act : Act) : Type 0 where
  pub inside : view.inside ≡ Some node
  pub intended : view.intended ≡ Some act
  pub undrawn : view.has_drawn ≡ false
  pub unwritten : view.unwritten ≡ None
  pub clear : view.owes ≡ false
  pub at : act_node (setting_in view.setup) act ≡ node
  pub few : length (own view.low view.seen) < 2 ^ 56
  pub cell : (key : Key) → key_put act ≡ Some key → IsCellOf view.setup key
  pub may : MayDo view act

-- a seat has lost a turn at a node to another actor of the tracker, and nothing else of it has
-- changed
abbrev pub LosesTurn : Me Act View → ℕ → ℕ → Held → Me Act View → Type 0
LosesTurn old actor node held new =
    (held.node ≡ node) × (held.by ≢ actor)
    × (new ≡ (view_held old.0 node (suc held.by) new.0.turns, old.1))
    × (held.by < old.0.setup.actors)

-- a view has drawn its ticket at a node, and has seen nothing since
pub record HasTurn (view : View) (node : ℕ) : Type 0 where
  pub inside : view.inside ≡ Some node
  pub has_drawn : view.has_drawn ≡ true
  pub count : view.visit_count ≡ length view.seen

-- a view has left the node where it drew its ticket, and has written all
pub record HasLeft (there new : View) : Type 0 where
  pub low : new.low ≡ there.low
  pub high : new.high ≡ there.high
  pub real : new.is_spent ≡ there.is_spent
  pub setup : new.setup ≡ there.setup
  pub seen : new.seen ≡ there.seen
  pub lost : new.lost ≡ there.lost
  pub inside : new.inside ≡ None
  pub undrawn : new.has_drawn ≡ false
  pub unwritten : new.unwritten ≡ None
  pub clear : new.owes ≡ false

-- from outside a node: its turn is won, the ticket is drawn, what the act says is done, and the
-- node is left, and its turn is logged as given back
pub record Makes (before : View) (node : ℕ) (act : Act) (ticket : ℕ) (after : View) : Type 0 where
  pub there : View
  pub won : Logs before.turns (Won before.low node) there.turns
  pub draws : Draws (view_inside before node act there.turns) node act ticket there
  pub left : HasLeft there after
  pub given_back : Logs there.turns (GivenBack there.low node) after.turns

-- two states of one pass, but for what it has seen and lost
pub record IsSamePass (old new : PassData) : Type 0 where
  pub table : new.table ≡ old.table
  pub seat : new.seat ≡ old.seat
  pub setup : new.view.setup ≡ old.view.setup
  pub actor : actor_of new ≡ actor_of old

-- a pass has made a visit, with this ticket: what it has seen goes on to the visit, which is the
-- last, and is legal for each subscriber; the visit is its own, and no other one is new; and it was
-- made in a turn of its own at the node
pub record HasVisited (old : PassData) (act : Act) (ticket : ℕ) (new : PassData) : Type 0 where
  pub earlier : History
  pub count : length earlier ≡ ticket
  pub begins : IsFront old.view.seen earlier
  pub visits : own (actor_of old) earlier ≡ own (actor_of old) old.view.seen
  pub seen : new.view.seen ≡ earlier ++ visit_by old.view act ∷ []
  pub legal : (sub : ℕ) → sub < subs_in old.view.setup
      → IsLegal (setting_in old.view.setup) sub new.view.seen
  pub outside : new.view.inside ≡ None
  pub turn : HasHadTurn (actor_of old) (act_node (setting_in old.view.setup) act) old.view.turns
      new.view.turns
  pub lost : new.view.lost ≡ old.view.lost
  pub spare : new.spare + 1 ≡ old.spare
  pub same : IsSamePass old new

-- a pass has lost a turn at a node to another actor of the tracker, and nothing else has changed;
-- the turn was that actor's at this very step, by the log of all turns
pub record HasLost (old : PassData) (place : ℕ) (held : Held) (new : PassData) : Type 0 where
  pub node : held.node ≡ place
  pub other : held.by ≢ actor_of old
  pub known : held.by < old.view.setup.actors
  pub turn : new ≡ record old { view = view_held old.view place (suc held.by) new.view.turns }
  pub logs : Logs old.view.turns (Lost (actor_of old) place (suc held.by)) new.view.turns

-- a pass has logged these events more, and has lost more turns: just those that they tell as lost
pub record HasLoggedMore (old : PassData) (events : List TurnEvent) (new : PassData)
    : Type 0 where
  pub logs : LogsAll old.view.turns events new.view.turns
  pub lost : new.view.lost ≡ old.view.lost ++ lost_in events

-- the nodes of an actor's visits, in order
abbrev pub own_nodes : Setting → ℕ → History → List ℕ
own_nodes setting actor history =
    map (λ visit. act_node setting visit.act) (own actor history)

-- a number has a bit for each subscriber of a census, and no other, and there are so many
pub record IsCensus (census : List ℕ) (who count : ℕ) : Type 0 where
  pub bits : (sub : ℕ) → bit_at who sub ≡ (if has sub census then 1 else 0)
  pub length_is : count ≡ length census

-- a pass has heard a note: what it has seen is the longer of what it had seen and what was noted,
-- and goes on from both, by known actors alone, and is legal; its own visits, its turns, its spare
-- and the node that it is inside are as before
pub record HasHeard (old : PassData) (note : NoteData) (new : PassData) : Type 0 where
  pub same : IsSamePass old new
  pub spare : new.spare ≡ old.spare
  pub inside : new.view.inside ≡ old.view.inside
  pub lost : new.view.lost ≡ old.view.lost
  pub turns : new.view.turns ≡ old.view.turns
  pub seen : new.view.seen ≡ longer old.view.seen note.view.seen
  pub begins : IsFront old.view.seen new.view.seen
  pub told : IsFront note.view.seen new.view.seen
  pub visits : own (actor_of old) new.view.seen ≡ own (actor_of old) old.view.seen
  pub known : (actor : ℕ) → old.view.setup.actors ≤ actor → own actor new.view.seen ≡ []
  pub legal : (sub : ℕ) → sub < subs_in old.view.setup
      → IsLegal (setting_in old.view.setup) sub new.view.seen
