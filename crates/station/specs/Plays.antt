-- What each step tells its seat: of the step, the seat before, the number found and the seat after.
-- Key law: `Tracker::witness`, by its clause `rule` (the rule holds of a state with the view).
use Rattle.std.specs.Prelude.{◌≡◌, ◌≢◌, ℕ, suc, ◌^◌, ◌<◌, ◌≤◌, true, false, List, [], ◌∷◌, ◌++◌, length, nat_lt, if◌then◌else◌, Option, Some, None}
use mathlib.Core.Option.{some}
use Rattle.atomic_table.specs.Table.{Me, State, Step}
use Rattle.entry_word.specs.declared.visit.Key.{Key}
use Rattle.entry_word.specs.declared.visit.Act.{Act}
use Rattle.entry_word.specs.declared.visit.Act.TheVariants.{Look, Put, Census}
use Rattle.entry_word.specs.declared.visit.Visit.{Visit}
use Rattle.directory.specs.Keys.{key_sub}
use Rattle.directory.specs.Histories.{History, IsFront, cell, changes_here, own, puts_to}
use Rattle.directory.specs.Legal.{IsLegal}
use Rattle.directory.specs.Census.{census}
use Rattle.station.specs.Setup.{Setup, setting_in, subs_in, IsCellOf, lock_word, tally_word, cell_word}
use Rattle.station.specs.Views.{StandsForActor, turn_at}
use Rattle.station.specs.Rule.{KeepsRule, IsViewOf}
use Rattle.station.specs.Turns.{Logs}
use Rattle.station.specs.declared.view.TurnEvent.{TurnEvent}
use Rattle.station.specs.declared.view.TurnEvent.TheVariants.{Won, GivenBack, Lost}
use Rattle.station.specs.declared.view.View.{View}

-- a view with its slots, of which it has none
abbrev pub Seat : Type 0
Seat = Me Act View

-- what a step tells: the step, the seat before, the number found, the seat after
abbrev pub Play : Type 1
Play = Step Act → Seat → ℕ → Seat → Type 0

-- the view inside a node where it means to do an act, and the log
abbrev pub view_inside : View → ℕ → Act → List TurnEvent → View
view_inside view node act log =
    record view { inside = Some node; intended = Some act; turns = log }

-- the view that lost the turn, and the log
abbrev pub view_held : View → ℕ → ℕ → List TurnEvent → View
view_held view node word log =
    record view { lost = view.lost ++ turn_at node word ∷ []; turns = log }

-- the turn is won where the lock word was 0; where it wasn't, it names another actor of the
-- tracker, and the turn is lost; and it is logged so
abbrev pub Turns : Play
Turns step before found after =
    (node : ℕ) (act : Act) → step.word ≡ lock_word node → step.said ≡ some act
    → (found ≡ 0 → (after ≡ (view_inside before.0 node act after.0.turns, before.1))
    × Logs before.0.turns (Won before.0.low node) after.0.turns)
    × (found ≢ 0 → (after ≡ (view_held before.0 node found after.0.turns, before.1))
    × (found ≢ suc before.0.low) × (found ≤ 128)
    × Logs before.0.turns (Lost before.0.low node found) after.0.turns
    × (before.0.is_spent ≡ false → found ≤ before.0.setup.actors))

-- the view of the first seat stands for all actors
abbrev pub first_view : Setup → View
first_view setup =
    record {
      setup = setup;
      is_spent = false;
      low = 0;
      high = setup.actors;
      seen = [];
      told = [];
      had = [];
      inside = None;
      intended = None;
      has_drawn = false;
      visit_count = 0;
      unwritten = None;
      before = 0;
      owes = false;
      tally = 0;
      turns = [];
      lost = [];
    }

-- the first actor of a view is dealt to a new seat: the view stands for the others then
abbrev pub view_of_rest : View → View
view_of_rest view = record view { low = suc view.low }

-- the view of the new seat stands for that actor alone
abbrev pub view_of_first : View → View
view_of_first view = record view { high = suc view.low }

-- a note of what a view has seen: it stands for nobody and is in no node
abbrev pub note_of : View → View
note_of view =
    record view {
      low = 0;
      high = 0;
      inside = None;
      intended = None;
      has_drawn = false;
      unwritten = None;
      owes = false;
      lost = [];
    }

-- the longer of two histories
abbrev pub longer : History → History → History
longer one other = if nat_lt (length one) (length other) then other else one

-- a view that takes a note in
abbrev pub view_with_note : View → View → View
view_with_note view note =
    record view { seen = longer view.seen note.seen; told = note.seen; had = view.seen }

-- the setup that a spent note is left with
abbrev pub no_setup : Setup
no_setup =
    record {
      plan = record {
        k = 0;
        reach = 0;
        distances = record { nodes = 0; cells = [] };
        levels = [];
      };
      homes = [];
      actors = 0;
    }

-- what a seat is left with that was joined into another
abbrev pub spent_view : View
spent_view = record (note_of (first_view no_setup)) { is_spent = true }

-- what was told, and what was seen before, are fronts of what is seen, which is legal; and the
-- visits of a view's own actor are those that it had seen, and all are those of known actors
pub record IsLearned (view : View) : Type 0 where
  pub told : IsFront view.told view.seen
  pub had : IsFront view.had view.seen
  pub visits : (actor : ℕ) → StandsForActor view actor → own actor view.seen ≡ own actor view.had
  pub known : (actor : ℕ) → view.setup.actors ≤ actor → own actor view.seen ≡ []
  pub legal : (sub : ℕ) → sub < subs_in view.setup → IsLegal (setting_in view.setup) sub view.seen

-- a seat learns that, and its view stays
abbrev pub Learns : Play
Learns step before found after = (after ≡ before) × IsLearned before.0

-- the visit that an act is
abbrev pub visit_by : View → Act → Visit
visit_by view act = record { actor = view.low; act = act }

-- the cell that an act puts into, if it is a put
abbrev pub key_put : Act → Option Key
key_put (Look key) = None
key_put (Put key word) = Some key
key_put (Census node) = None

-- the word that its cell held before, if it is a put
abbrev pub word_before : Setup → History → Act → ℕ
word_before setup history (Look key) = 0
word_before setup history (Put key word) = cell (setting_in setup) history key
word_before setup history (Census node) = 0

-- a view may do an act: a put is for its own actor, and keeps the history legal
abbrev pub MayDo : View → Act → Type 0
MayDo view (Look key) = Unit {0}
MayDo view (Put key word) =
    (key_sub key ≡ view.low)
    × IsLegal (setting_in view.setup) view.low (view.seen ++ visit_by view (Put key word) ∷ [])
MayDo view (Census node) = Unit {0}

-- the view once it has drawn the ticket of an act at a node, after these visits of all
abbrev pub view_with_ticket : View → ℕ → Act → History → View
view_with_ticket view node act earlier =
    record view {
      seen = earlier ++ visit_by view act ∷ [];
      had = earlier ++ visit_by view act ∷ [];
      has_drawn = true;
      visit_count = suc (length earlier);
      unwritten = key_put act;
      before = word_before view.setup earlier act;
      owes = changes_here (setting_in view.setup) earlier act;
      tally = length (census (setting_in view.setup) earlier node);
    }

-- a ticket is drawn: the number found counts the visits of all, which go on from those that the
-- view has seen with none of its own; and the history is legal with the visit
pub record Draws (before : View) (node : ℕ) (act : Act) (found : ℕ) (after : View) : Type 0 where
  pub earlier : History
  pub count : length earlier ≡ found
  pub few : found ≤ 2 ^ 63
  pub seen : IsFront before.seen earlier
  pub visits : own before.low earlier ≡ own before.low before.seen
  pub puts : before.low < subs_in before.setup
      → puts_to before.low earlier ≡ puts_to before.low before.seen
  pub view : after ≡ view_with_ticket before node act earlier
  pub legal : (sub : ℕ) → sub < subs_in before.setup
      → IsLegal (setting_in before.setup) sub after.seen

-- a seat inside a node draws the ticket of the act that it means to do
abbrev pub DrawsTicket : Play
DrawsTicket step before found after =
    (node : ℕ) (act : Act) → before.0.inside ≡ Some node → before.0.intended ≡ Some act
    → Draws before.0 node act found after.0 × (after.1 ≡ before.1)

-- a cell is read, as it is after what the view has seen, or before the put that isn't written
abbrev pub ReadsCell : Play
ReadsCell step before found after =
    (after ≡ before) × ((key : Key) → IsCellOf before.0.setup key
    → step.word ≡ cell_word before.0.setup key
    → (before.0.unwritten ≡ None → found ≡ cell (setting_in before.0.setup) before.0.seen key)
    × (before.0.unwritten ≡ Some key → found ≡ before.0.before))

-- a tally is read, as it is after what the view has seen, or as it was before
abbrev pub ReadsTally : Play
ReadsTally step before found after =
    (after ≡ before) × ((node : ℕ) → step.word ≡ tally_word before.0.setup node
    → (before.0.owes ≡ false
    → found ≡ length (census (setting_in before.0.setup) before.0.seen node))
    × (before.0.owes ≡ true → found ≡ before.0.tally))

-- the put is written
abbrev pub view_after_put : View → View
view_after_put view = record view { unwritten = None }

-- the tally is written
abbrev pub view_after_tally : View → View
view_after_tally view = record view { owes = false }

-- the node is left, and the log
abbrev pub view_outside : View → List TurnEvent → View
view_outside view log =
    record view { inside = None; intended = None; has_drawn = false; turns = log }

-- a seat writes its put
abbrev pub Writes : Play
Writes step before found after = after ≡ (view_after_put before.0, before.1)

-- a seat writes its tally
abbrev pub Tallies : Play
Tallies step before found after = after ≡ (view_after_tally before.0, before.1)

-- a seat leaves its node, and its turn is logged as given back
abbrev pub Leaves : Play
Leaves step before found after =
    (after ≡ (view_outside before.0 after.0.turns, before.1)) × ((node : ℕ)
    → before.0.inside ≡ Some node → Logs before.0.turns (GivenBack before.0.low node) after.0.turns)

-- the rule holds, and a seat has the view
pub record IsWitnessed (view : View) : Type 0 where
  pub state : State Act View
  pub seat : ℕ
  pub kept : KeepsRule view.setup state
  pub view_is : IsViewOf state.views seat view

-- a seat learns that, and its view stays
abbrev pub Witnesses : Play
Witnesses step before found after = (after ≡ before) × IsWitnessed before.0
