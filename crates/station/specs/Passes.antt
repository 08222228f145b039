-- What contracts see of a tracker and of a pass. Key law: `Pass::reserve`, by its clauses (a pass
-- has room for so many visits more, or memory is wanting and it is as before).
use Rattle.std.specs.Prelude.{◌≡◌, ℕ, suc, ◌+◌, ◌^◌, ◌<◌, ◌≤◌, false, List, [], length, Some, None, slice_get}
use Rattle.atomic_table.specs.Seated.{TableId}
use Rattle.atomic_table.specs.Table.{Me}
use Rattle.entry_word.specs.declared.visit.Act.{Act}
use Rattle.directory.specs.Histories.{tickets}
use Rattle.visit_log.specs.Cells.{HasHomes}
use Rattle.visit_log.specs.Numbers.{ArePlaces, PlaceData}
use Rattle.station.specs.Setup.{Setup, CellsLie, nodes_in, subs_in, word_count}
use Rattle.station.specs.Plays.{first_view}
use Rattle.station.specs.declared.turns.Stay.{Stay}
use Rattle.station.specs.declared.view.View.{View}

-- a tracker: which table it has, and what it was told when it was made
pub record TrackerData : Type 0 where
  pub table : TableId
  pub setup : Setup

-- a pass: which table it is of, its seat and its view, and how many visits it has room for
pub record PassData : Type 0 where
  pub table : TableId
  pub seat : ℕ
  pub view : View
  pub spare : ℕ

-- the numbers and the places that a tracker keeps
pub record IsTracker (table : TableId) (setup : Setup) (nodes subs actors : ℕ)
    (places : PlaceData) : Type 0 where
  pub words : table.words ≡ word_count setup
  pub slots : table.slots ≡ 0
  pub nodes_are : nodes ≡ nodes_in setup
  pub subs_are : subs ≡ subs_in setup
  pub actors_are : actors ≡ setup.actors
  pub few_nodes : nodes ≤ 1024
  pub few_words : word_count setup < 2 ^ 64
  pub few_subs : subs ≤ 64
  pub some_actors : 1 ≤ actors
  pub few_actors : actors ≤ 128
  pub lies : CellsLie setup
  pub homes : HasHomes setup.plan
  pub places_are : ArePlaces setup.plan places

-- a pass stands for its actor; between two calls it has nothing to write; and it keeps the tickets
-- of its own visits, with room for more
pub record IsPass (me : Me Act View) (actor seen spare : ℕ) (kept : List ℕ)
    (room : ℕ) : Type 0 where
  pub slots : me.1 ≡ []
  pub low : me.0.low ≡ actor
  pub high : me.0.high ≡ suc actor
  pub real : me.0.is_spent ≡ false
  pub undrawn : me.0.has_drawn ≡ false
  pub unwritten : me.0.unwritten ≡ None
  pub clear : me.0.owes ≡ false
  pub seen_is : seen ≡ length me.0.seen
  pub tickets_are : kept ≡ tickets actor me.0.seen
  pub room_is : length kept + spare ≤ room
  pub few : length kept + spare ≤ 2 ^ 56

-- the actor of a pass
abbrev pub actor_of : PassData → ℕ
actor_of pass = pass.view.low

-- a note: which table it is of, its seat and its view
pub record NoteData : Type 0 where
  pub table : TableId
  pub seat : ℕ
  pub view : View

-- a note stands for nobody, and is in no node
pub record IsNote (me : Me Act View) (seen : ℕ) : Type 0 where
  pub slots : me.1 ≡ []
  pub low : me.0.low ≡ 0
  pub high : me.0.high ≡ 0
  pub inside : me.0.inside ≡ None
  pub seen_is : seen ≡ length me.0.seen

-- a note is of a tracker
pub record IsNoteOf (tracker : TrackerData) (note : NoteData) : Type 0 where
  pub table : note.table ≡ tracker.table
  pub setup : note.view.setup ≡ tracker.setup

-- a pass is of a tracker
pub record IsPassOf (tracker : TrackerData) (pass : PassData) : Type 0 where
  pub table : pass.table ≡ tracker.table
  pub setup : pass.view.setup ≡ tracker.setup

-- a stay is of a pass: the pass is inside the node
pub record IsStayOf (stay : Stay) (pass : PassData) : Type 0 where
  pub actor : stay.actor ≡ actor_of pass
  pub inside : pass.view.inside ≡ Some stay.node
  pub known : stay.node < nodes_in pass.view.setup

-- the view of an actor that has done nothing, and its pass
abbrev pub fresh_view : Setup → ℕ → View
fresh_view setup actor = record (first_view setup) { low = actor; high = suc actor }

-- a pass of a new tracker
pub record IsFreshPass (tracker : TrackerData) (actor : ℕ) (pass : PassData) : Type 0 where
  pub table : pass.table ≡ tracker.table
  pub view : pass.view ≡ fresh_view tracker.setup actor
  pub spare : pass.spare ≡ 0

-- fresh passes of the first actors, in order
abbrev pub AreFresh : TrackerData → List PassData → Type 0
AreFresh tracker passes =
    (actor : ℕ) (pass : PassData) → slice_get passes actor ≡ Some pass
    → IsFreshPass tracker actor pass

-- a pass of a tracker is in no node, and has room for so many visits
pub record IsFree (tracker : TrackerData) (visits : ℕ) (pass : PassData) : Type 0 where
  pub of : IsPassOf tracker pass
  pub outside : pass.view.inside ≡ None
  pub room : visits ≤ pass.spare
