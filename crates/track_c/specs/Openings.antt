-- What the cells of a subscriber hold at the opening, by index: its presence at its start node, and
-- then its entry at that node's home of each level, from 0 on. Every other cell holds 0.
-- Key law: `track_plan_opening`, by its clauses.
use Rattle.std.specs.Prelude.{◌≡◌, ◌≢◌, ◌<◌, ◌≤◌, ℕ, zero, suc, List, length, slice_index, nat_le, nat_lt, if◌then◌else◌, Option, Some, None, Ok, Err}
use Rattle.entry_word.specs.declared.mark.PresenceMark.TheVariants.{Here}
use Rattle.entry_word.specs.declared.visit.Key.{Key}
use Rattle.directory.specs.Keys.{key_sub, opening}
use Rattle.directory.specs.Writes.{Write, entry_at, mark_at, write_key, write_word}
use Rattle.region_plan.specs.Plan.{PlanData, home, levels_of, nodes_of}
use Rattle.region_plan.specs.Settings.{setting_of}
use Rattle.track_c.specs.Faults.{Answer}
use Rattle.track_c.specs.Held.{PlanHeld}
use Rattle.track_c.specs.Moves.{put_told}
use Rattle.track_c.specs.declared.cells.TrackPut.{TrackPut}
use Rattle.track_c.specs.declared.fault.Fault.TheVariants.{NoNode, PastEnd}

-- the cell by this index that isn't 0 at the opening of a subscriber that starts at a node
abbrev pub opening_write : PlanData → ℕ → ℕ → Option Write
opening_write plan node zero = Some (mark_at node (Here 0))
opening_write plan node (suc level) =
    if nat_lt level (levels_of plan)
    then Some (entry_at level (home plan level node) (Some (record { number = 0; node = node })))
    else None

-- as C is told it
abbrev pub write_or_end : PlanData → ℕ → Option Write → Answer TrackPut
write_or_end plan sub None = Err PastEnd
write_or_end plan sub (Some write) = Ok (put_told plan sub write)

abbrev pub opening_put : ℕ → ℕ → ℕ → PlanHeld → Answer TrackPut
opening_put sub node index held =
    if nat_le (nodes_of held.plan) node then Err NoNode
    else write_or_end held.plan sub (opening_write held.plan node index)

-- each of these cells holds at the opening what the directory's opening says
-- (`openings_are_the_directorys`)
abbrev pub PutsAreOpening : Type 0
PutsAreOpening =
    (plan : PlanData) (starts : List ℕ) (sub index : ℕ) (write : Write) → 1 ≤ levels_of plan
    → sub < length starts → opening_write plan (slice_index starts sub) index ≡ Some write
    → write_word write ≡ opening (setting_of plan starts) (write_key sub write)

-- a cell is one of these, of a subscriber that starts at a node
pub record IsOpened (plan : PlanData) (node : ℕ) (key : Key) : Type 0 where
  pub index : ℕ
  pub write : Write
  pub put : opening_write plan node index ≡ Some write
  pub cell : write_key (key_sub key) write ≡ key

-- and each cell of a subscriber that isn't 0 by the directory's opening is one of these
-- (`openings_are_the_directorys`)
abbrev pub OpeningIsPut : Type 0
OpeningIsPut =
    (plan : PlanData) (starts : List ℕ) (key : Key) → 1 ≤ levels_of plan
    → key_sub key < length starts → opening (setting_of plan starts) key ≢ 0
    → IsOpened plan (slice_index starts (key_sub key)) key
