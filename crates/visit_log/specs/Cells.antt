-- Plain cells: the words of all cells, those of a subscriber side by side, and for each level the
-- place of its first cluster.
-- Key laws: `PlainCells::look` and `put`, by their clauses `history` (they hold what a history
-- leaves).
use Rattle.std.specs.Prelude.{◌≡◌, ℕ, ◌+◌, ◌*◌, ◌<◌, ◌==◌, ◌&&◌, nat_lt, if◌then◌else◌, Some, List, length, slice_index}
use Rattle.entry_word.specs.declared.visit.Key.{Key}
use Rattle.entry_word.specs.declared.visit.Key.TheVariants.{Presence, Entry}
use Rattle.entry_word.specs.declared.mark.PresenceMark.TheVariants.{Here}
use Rattle.entry_word.specs.Marks.{mark_word}
use Rattle.entry_word.specs.Addresses.{address_word}
use Rattle.directory.specs.Histories.{History, cell}
use Rattle.directory.specs.Keys.{key_sub}
use Rattle.region_plan.specs.Plan.{PlanData, clusters_of, home, levels_of, nodes_of}
use Rattle.region_plan.specs.Settings.{setting_of}
use Rattle.region_plan.specs.Cells.{IsCell}
use Rattle.visit_log.specs.Numbers.{cluster_count, clusters_below, key_place}

-- what contracts see of plain cells
pub record CellData : Type 0 where
  pub subs : ℕ
  pub width : ℕ
  pub firsts : List ℕ
  pub words : List ℕ

-- how many cells a subscriber has
abbrev pub width_of : PlanData → ℕ
width_of plan = nodes_of plan + cluster_count plan

-- the place of a cell's word: subscriber by subscriber, and then by node or cluster
abbrev pub slot_of : PlanData → Key → ℕ
slot_of plan key = key_sub key * width_of plan + key_place plan key

-- plain cells go with a plan: they have a word for each of its cells, and the places of its
-- clusters
pub record GoWith (plan : PlanData) (cells : CellData) : Type 0 where
  pub width : cells.width ≡ width_of plan
  pub levels : length cells.firsts ≡ levels_of plan
  pub firsts : (level : ℕ) → level < levels_of plan
      → slice_index cells.firsts level ≡ nodes_of plan + clusters_below plan level
  pub words : length cells.words ≡ cells.subs * width_of plan

-- each home of a plan is a cluster of its level
abbrev pub HasHomes : PlanData → Type 0
HasHomes plan =
    (level node : ℕ) → level < levels_of plan → node < nodes_of plan
    → home plan level node < clusters_of plan level

-- the word of a cell
abbrev pub word_at : PlanData → CellData → Key → ℕ
word_at plan cells key = slice_index cells.words (slot_of plan key)

-- the word of a subscriber's cell at a place
abbrev pub word_beside : CellData → ℕ → ℕ → ℕ
word_beside cells sub place = slice_index cells.words (sub * cells.width + place)

-- plain cells hold what a history leaves in the cells of subscribers that start at these nodes
pub record Hold (plan : PlanData) (starts : List ℕ) (cells : CellData)
    (history : History) : Type 0 where
  pub subs : cells.subs ≡ length starts
  pub words : (key : Key) → IsCell plan (length starts) key
      → word_at plan cells key ≡ cell (setting_of plan starts) history key

-- a cell is that of a subscriber, of so many, at a place among its own
pub record IsPlaceOf (plan : PlanData) (subs sub at : ℕ) (key : Key) : Type 0 where
  pub cell : IsCell plan subs key
  pub owner : key_sub key ≡ sub
  pub place : at ≡ key_place plan key

-- the word of a cell once a subscriber is put at its start node, and its address at the homes of
-- that node below a level
abbrev pub open_word : PlanData → ℕ → ℕ → ℕ → Key → ℕ → ℕ
open_word plan sub start limit (Presence node other) word =
    if node == start && other == sub then mark_word (Here 0) else word
open_word plan sub start limit (Entry level cluster other) word =
    if nat_lt level limit && (cluster == home plan level start && other == sub)
    then address_word (Some (record { number = 0; node = start })) else word
