-- What a tracker is told when it is made, and where its words lie: first the ticket word, which
-- counts the visits; then a lock word for each node; then a tally word for each node; then the
-- cells, by their numbers. Key law: `cell_numbers` of visit_log (no two cells share a word).
use Rattle.std.specs.Prelude.{ℕ, suc, ◌+◌, ◌*◌, ◌<◌, List, length}
use Rattle.entry_word.specs.declared.visit.Key.{Key}
use Rattle.directory.specs.Settings.{Setting}
use Rattle.directory.specs.Keys.{key_node}
use Rattle.region_plan.specs.Plan.{PlanData, nodes_of}
use Rattle.region_plan.specs.Settings.{setting_of}
use Rattle.region_plan.specs.Cells.{IsCell}
use Rattle.visit_log.specs.Numbers.{cell_count, cell_number}

-- the plan, the start nodes of the subscribers, and how many actors there are: the subscribers
-- first, and then the callers
pub record Setup : Type 0 where
  pub plan : PlanData
  pub homes : List ℕ
  pub actors : ℕ

-- the setting of a setup
abbrev pub setting_in : Setup → Setting
setting_in setup = setting_of setup.plan setup.homes

-- how many nodes there are
abbrev pub nodes_in : Setup → ℕ
nodes_in setup = nodes_of setup.plan

-- how many subscribers there are
abbrev pub subs_in : Setup → ℕ
subs_in setup = length setup.homes

-- a key names a cell
abbrev pub IsCellOf : Setup → Key → Type 0
IsCellOf setup key = IsCell setup.plan (subs_in setup) key

-- each cell lies at a node
abbrev pub CellsLie : Setup → Type 0
CellsLie setup = (key : Key) → IsCellOf setup key → key_node (setting_in setup) key < nodes_in setup

-- the place of the lock word of a node
abbrev pub lock_word : ℕ → ℕ
lock_word node = suc node

-- the place of the tally word of a node
abbrev pub tally_word : Setup → ℕ → ℕ
tally_word setup node = suc (nodes_in setup + node)

-- the place of the word of a cell
abbrev pub cell_word : Setup → Key → ℕ
cell_word setup key =
    suc (2 * nodes_in setup + cell_number setup.plan (subs_in setup) key)

-- how many words there are
abbrev pub word_count : Setup → ℕ
word_count setup = suc (2 * nodes_in setup + cell_count setup.plan (subs_in setup))
