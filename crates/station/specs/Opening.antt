-- The words at the opening, and how they are laid, one after another. Key law: `opening_words`, by
-- its clause `opening` (it gives all words of the opening).
use Rattle.std.specs.Prelude.{◌≡◌, ℕ, ◌<◌, List, [], length, slice_index}
use Rattle.entry_word.specs.declared.visit.Key.{Key}
use Rattle.directory.specs.Histories.{cell}
use Rattle.directory.specs.Census.{census}
use Rattle.region_plan.specs.Plan.{PlanData}
use Rattle.station.specs.Setup.{Setup, setting_in, nodes_in, IsCellOf, lock_word, tally_word, cell_word, word_count}

-- a setup of so many actors
abbrev pub setup_of : PlanData → List ℕ → ℕ → Setup
setup_of plan homes actors = record { plan = plan; homes = homes; actors = actors }

-- the words so far are those of the opening
pub record AreLaid (setup : Setup) (words : List ℕ) : Type 0 where
  pub ticket : 0 < length words → slice_index words 0 ≡ 0
  pub locks : (node : ℕ) → node < nodes_in setup → lock_word node < length words
      → slice_index words (lock_word node) ≡ 0
  pub tallies : (node : ℕ) → node < nodes_in setup → tally_word setup node < length words
      → slice_index words (tally_word setup node)
      ≡ length (census (setting_in setup) [] node)
  pub cells : (key : Key) → IsCellOf setup key → cell_word setup key < length words
      → slice_index words (cell_word setup key) ≡ cell (setting_in setup) [] key

-- all words of the opening are laid
pub record AreOpening (setup : Setup) (words : List ℕ) : Type 0 where
  pub laid : AreLaid setup words
  pub size : length words ≡ word_count setup
