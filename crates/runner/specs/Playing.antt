-- Visits of one actor that are each its next one, whatever others do in between. A pass sees the
-- history up to its own last visit alone; what others add behind that changes neither which visits
-- of the actor were next ones, nor which one comes next.
-- Key laws: `played-in` and `next-in` (what others do changes nothing), `played-next` (one more
-- next visit), `all-played` (where it holds of each actor, each visit of the history was its
-- actor's next one), all of `PlayLaws`.
use Rattle.std.specs.Prelude.{◌≡◌, ℕ, ◌+◌, List, [], ◌∷◌, Option, Some, slice_get, sum_by}
use Rattle.entry_word.specs.declared.visit.Act.{Act}
use Rattle.entry_word.specs.declared.visit.Visit.{Visit}
use Rattle.directory.specs.Settings.{Setting}
use Rattle.directory.specs.Finds.{FindCall, Pursuit, looks_left, most_looks}
use Rattle.directory.specs.Histories.{History, before}
use Rattle.directory.specs.Keys.{act_node}
use Rattle.directory.specs.Orders.{Scripts, next}
use Rattle.net_reader.specs.Input.{Contents}
use Rattle.scripts.specs.Scripts.{scripts_of}
use Rattle.station.specs.Passes.{PassData}
use Rattle.station.specs.Plays.{visit_by}
use Rattle.station.specs.Setup.{Setup, setting_in}
use Rattle.station.specs.Visits.{HasLost, HasVisited}
use Rattle.station.specs.declared.turns.Held.{Held}
use Rattle.station.specs.declared.view.View.{View}

-- each visit of an actor in a history was its next one
abbrev pub IsPlayedBy : Setting → Scripts → ℕ → History → Type 0
IsPlayedBy setting scripts actor history =
    (ticket : ℕ) (visit : Visit) → slice_get history ticket ≡ Some visit → visit.actor ≡ actor
    → next setting scripts (before ticket history) actor ≡ Some visit

-- the next visit of a view's actor, by what the view has seen
abbrev pub next_of : Contents → Setup → View → Option Visit
next_of input setup view = next (setting_in setup) (scripts_of input) view.seen view.low

-- a pass has made its actor's next visit
pub record HasMadeNext (input : Contents) (setup : Setup) (old new : PassData) : Type 0 where
  pub act : Act
  pub ticket : ℕ
  pub visited : HasVisited old act ticket new
  pub is_next : next_of input setup old.view ≡ Some (visit_by old.view act)

-- a pass has lost a turn at the node of its actor's next visit, and nothing else has changed
pub record HasLostNext (input : Contents) (setup : Setup) (old : PassData) (held : Held)
    (new : PassData) : Type 0 where
  pub visit : Visit
  pub is_next : next_of input setup old.view ≡ Some visit
  pub lost : HasLost old (act_node (setting_in setup) visit.act) held new

-- the most looks that are left of these finds, the first of which is at this pursuit
abbrev pub looks_after : Setting → List FindCall → Pursuit → ℕ
looks_after setting [] pursuit = 0
looks_after setting (call ∷ later) pursuit =
    looks_left setting call pursuit + sum_by (λ find. most_looks setting find.from) later
