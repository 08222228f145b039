-- What a setting needs so that finds travel in proportion to their distance, and the bound on what
-- a quiet find travels.
-- Key laws: `quiet_finds_are_near`, `resting_finds_are_nearer`.
use Rattle.std.specs.Prelude.{◌≡◌, ◌≢◌, ℕ, ◌+◌, ◌*◌, ◌<◌, ◌≤◌, ◌^◌, true, List, length}
use Rattle.node_set.specs.Ascending.{has}
use Rattle.directory.specs.Settings.{Setting}
use Rattle.directory.specs.Histories.{before, History, through}
use Rattle.directory.specs.Legal.{IsLegal}
use Rattle.directory.specs.Finds.{FindCall, found_weight}
use Rattle.directory.specs.Looks.{first_of, IsFind, IsQuiet, last_of}
use Rattle.directory.specs.Standing.{passage, standing}
use Rattle.directory.specs.declared.answers.Found.{Found}
use Rattle.trail_laws.specs.Rightness.{IsAnswered}
use Rattle.trail_laws.specs.Phases.{IsAtRest}
use Rattle.trail_laws.specs.Trail.{HasMetric}

-- the radius of a level, a power of two
abbrev pub radius : ℕ → ℕ
radius level = 2 ^ level

-- a setting whose clusters are at most so many radii wide, and of which a node reads at most so
-- many at a level: distances are those of a network, in which two nodes are apart; a level above
-- the lowest is renewed after at most half of its radius, and the lowest after each move; whoever
-- is within a level's radius of a node reads its home, and at the top level everybody does; and
-- the way from a leader to a reader is no shorter than their distance
pub record IsTracking (setting : Setting) (width most_readers : ℕ) : Type 0 where
  pub metric : HasMetric setting
  pub apart : (u v : ℕ) → u < setting.nodes → v < setting.nodes → u ≢ v
      → 1 ≤ setting.distance u v
  pub gathers : (i : ℕ) → i ≤ setting.top → 1 ≤ setting.threshold i
  pub halves : (i : ℕ) → i ≤ setting.top → 2 * setting.threshold i ≤ radius i + 1
  pub read : (i u v : ℕ) → i ≤ setting.top → u < setting.nodes → v < setting.nodes
      → setting.distance u v ≤ radius i → has (setting.home i u) (setting.readers i v) ≡ true
  pub whole : (u v : ℕ) → u < setting.nodes → v < setting.nodes
      → has (setting.home setting.top u) (setting.readers setting.top v) ≡ true
  pub few : (i v : ℕ) → i ≤ setting.top → v < setting.nodes
      → length (setting.readers i v) ≤ most_readers
  pub led : (i c v : ℕ) → i ≤ setting.top → v < setting.nodes
      → has c (setting.readers i v) ≡ true → setting.leader i c < setting.nodes
  pub far : (i c v : ℕ) → i ≤ setting.top → v < setting.nodes
      → has c (setting.readers i v) ≡ true
      → setting.distance (setting.leader i c) v ≤ setting.inside i c v
  pub wide : (i c v : ℕ) → i ≤ setting.top → v < setting.nodes
      → has c (setting.readers i v) ≡ true → setting.inside i c v ≤ width * radius i

-- how many times its distance a quiet find may travel
abbrev pub stretch : ℕ → ℕ → ℕ
stretch width most_readers = 16 * most_readers * width + 12 * width + 5

-- a find has its answer, and travelled at most so much: the stretch times the distance from its
-- origin to where its subscriber stands after a history, and twice the passage that is open there
abbrev pub IsNear : Setting → ℕ → ℕ → FindCall → Found → History → Type 0
IsNear setting width most_readers call found history =
    IsAnswered found
    × (found_weight found ≤ stretch width most_readers
    * setting.distance call.from (standing setting call.sub history)
    + 2 * passage setting call.sub history)

-- so it is for each quiet find of a legal history, told at its first look and told at its last
-- (`quiet_finds_are_near`)
abbrev pub QuietFindsAreNear : Type 0
QuietFindsAreNear =
    (setting : Setting) (width most_readers : ℕ) (history : History) (actor : ℕ) (call : FindCall)
    (found : Found) (tickets : List ℕ) → setting.nodes ≤ 2 ^ 16
    → IsTracking setting width most_readers → call.from < setting.nodes
    → IsLegal setting call.sub history → IsFind setting history actor call found tickets
    → IsQuiet history call.sub (first_of tickets) (last_of tickets)
    → IsNear setting width most_readers call found (before (first_of tickets) history)
    × IsNear setting width most_readers call found (through (last_of tickets) history)

-- how many times its distance a quiet find may travel where its subscriber rests
abbrev pub resting_stretch : ℕ → ℕ → ℕ
resting_stretch width most_readers = 16 * most_readers * width + 4 * width + 4

-- where its subscriber has nothing left to put at the first look, a quiet find travels less
-- (`resting_finds_are_nearer`)
abbrev pub RestingFindsAreNearer : Type 0
RestingFindsAreNearer =
    (setting : Setting) (width most_readers : ℕ) (history : History) (actor : ℕ) (call : FindCall)
    (found : Found) (tickets : List ℕ) → setting.nodes ≤ 2 ^ 16
    → IsTracking setting width most_readers → call.from < setting.nodes
    → IsLegal setting call.sub history → IsFind setting history actor call found tickets
    → IsQuiet history call.sub (first_of tickets) (last_of tickets)
    → IsAtRest setting call.sub (before (first_of tickets) history)
    → IsAnswered found × (found_weight found ≤ resting_stretch width most_readers
    * setting.distance call.from (standing setting call.sub (before (first_of tickets) history)))
