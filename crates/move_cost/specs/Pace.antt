-- What a setting needs so that moves are paid by how far they go: a level is renewed only once it
-- has gathered about half of its radius, and clusters are so many radii wide. A move then writes
-- in proportion to what its highest level has gathered, and what a level has gathered is spent at
-- its renewal, so that nothing is spent twice.
-- Key laws: `written_is_bounded`, `purged_is_bounded`, and `plans_are_paced` (a plan that bounds
-- its finds is such a setting).
use Rattle.std.specs.Prelude.{◌≡◌, ◌≢◌, ℕ, suc, ◌+◌, ◌*◌, ◌^◌, ◌<◌, ◌≤◌, List, length, filter, sum_by, count_by}
use Rattle.directory.specs.Amid.{course_of}
use Rattle.directory.specs.Settings.{Setting, levels}
use Rattle.directory.specs.Courses.{Step, Course, last_stop, move_to, next_move}
use Rattle.directory.specs.Legal.{IsScript}
use Rattle.directory.specs.Writes.{erasure_writes, numbers_from, old_home, purge_writes, step_writes}
use Rattle.trail_laws.specs.Trail.{HasMetric}
use Rattle.move_cost.specs.Costs.{erased_levels, is_erasure, is_purge, moved, purged, step_weight, written}
use Rattle.move_cost.specs.Rate.{writing_rate}

-- a setting whose levels are renewed at such a pace, and whose clusters are at most so many radii
-- wide: distances are those of a network, in which two nodes are apart; twice the threshold of a
-- level reaches its radius; and from the leader of a node's home it is as far as the distance at
-- least, and at most the width
pub record IsPaced (setting : Setting) (width : ℕ) : Type 0 where
  pub metric : HasMetric setting
  pub apart : (u v : ℕ) → u < setting.nodes → v < setting.nodes → u ≢ v
      → 1 ≤ setting.distance u v
  pub gathers : (i : ℕ) → i ≤ setting.top → 2 ^ i ≤ 2 * setting.threshold i
  pub led : (i v : ℕ) → i ≤ setting.top → v < setting.nodes
      → setting.leader i (setting.home i v) < setting.nodes
  pub far : (i v : ℕ) → i ≤ setting.top → v < setting.nodes
      → setting.distance (setting.leader i (setting.home i v)) v
      ≤ setting.inside i (setting.home i v) v
  pub wide : (i v : ℕ) → i ≤ setting.top → v < setting.nodes
      → setting.inside i (setting.home i v) v ≤ width * 2 ^ i

-- a subscriber writes at most so many times how far it goes (`written_is_bounded`)
abbrev pub WrittenIsBounded : Type 0
WrittenIsBounded =
    (setting : Setting) (width sub : ℕ) (steps : List Step) → IsPaced setting width
    → IsScript setting sub steps
    → written setting sub steps
    ≤ writing_rate width (levels setting) * moved setting sub steps

-- it purges at most as many marks as it makes moves (`purged_is_bounded`)
abbrev pub PurgedIsBounded : Type 0
PurgedIsBounded =
    (setting : Setting) (sub : ℕ) (steps : List Step)
    → purged setting sub steps ≤ length (course_of setting sub steps).moves

-- a move weighs the way back to the old node twice; at each level that it renews the way from the
-- home's leader twice; and at each level where it erases the old address the way to that leader
-- twice (`move_weighs`)
abbrev pub MoveWeighs : Type 0
MoveWeighs =
    (setting : Setting) (course : Course) (node : ℕ)
    → step_weight setting course (move_to node)
    ≡ 2 * setting.distance (last_stop course) node
    + sum_by (λ level. 2 * setting.inside level (setting.home level node) node)
    (numbers_from 0 (suc (next_move setting course node).renewed))
    + sum_by (λ level. 2 * setting.distance node
    (setting.leader level (old_home setting course level)))
    (erased_levels setting course (next_move setting course node))

-- the marks that a move purges are those that are counted (`purges_are_counted`)
abbrev pub PurgesAreCounted : Type 0
PurgesAreCounted =
    (setting : Setting) (course : Course) (node : ℕ)
    → count_by is_purge (step_writes setting course (move_to node))
    ≡ length (purge_writes setting course (next_move setting course node))

-- of the writes of a move those that erase an address are its erasures (`erasures_are_written`)
abbrev pub ErasuresAreWritten : Type 0
ErasuresAreWritten =
    (setting : Setting) (course : Course) (node : ℕ)
    → filter is_erasure (step_writes setting course (move_to node))
    ≡ erasure_writes setting course (next_move setting course node)
