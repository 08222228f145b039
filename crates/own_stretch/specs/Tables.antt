-- What the code keeps while it computes a plan's own stretches: how far the farthest node that is
-- homed at each cluster is, what readers so far cost a node, and what it pays up to each level.
-- Only the private functions of this crate speak of them.
-- Key law: `own_stretches` (it computes the numbers of `OwnStretch`).
use Rattle.std.specs.Prelude.{◌≡◌, ℕ, ◌+◌, ◌-◌, ◌*◌, ◌<◌, ◌≤◌, ◌^◌, List, [], ◌∷◌, flat_map, length, map, max, slice_index, slice_index_or}
use Rattle.directory.specs.Finds.{Reader}
use Rattle.directory.specs.Settings.{Setting}
use Rattle.directory.specs.Writes.{numbers_from}
use Rattle.region_plan.specs.Plan.{clusters_of, PlanData}
use Rattle.region_plan.specs.Settings.{setting_of}
use Rattle.busy_finds.specs.Levels.{cost_up_to, farthest, inside_of}
use Rattle.own_stretch.specs.declared.costs.Paid.{Paid}

-- a plan as a setting without subscribers
abbrev pub bare : PlanData → Setting
bare plan = setting_of plan []

-- a cluster of a level, as finds read it
abbrev pub reader_at : ℕ → ℕ → Reader
reader_at level cluster = record { level = level; cluster = cluster }

-- how far the farthest node that is homed at each cluster of a level is from its leader
pub record AreFarthest (plan : PlanData) (level : ℕ) (far : List ℕ) : Type 0 where
  pub count : length far ≡ clusters_of plan level
  pub each : (cluster : ℕ) → cluster < clusters_of plan level
      → slice_index far cluster ≡ farthest (bare plan) (reader_at level cluster)

-- at each of the first so many levels
pub record AreAllFarthest (plan : PlanData) (count : ℕ) (lists : List (List ℕ)) : Type 0 where
  pub count_is : length lists ≡ count
  pub each : (level : ℕ) → level < count → AreFarthest plan level (slice_index_or lists level [])

-- nothing is read
abbrev pub unread : Paid
unread = record { passed = 0; most = 0 }

-- what a node pays once it has read one cluster more
abbrev pub pay : Setting → ℕ → Paid → Reader → Paid
pay setting node paid reader = record {
  passed = paid.passed + 2 * inside_of setting node reader;
  most = max paid.most (paid.passed + 2 * inside_of setting node reader
      + 2 * farthest setting reader + 2 * setting.threshold reader.level - 2);
}

-- and some clusters more, one after another
abbrev pub pay_all : Setting → ℕ → Paid → List Reader → Paid
pay_all setting node paid [] = paid
pay_all setting node paid (reader ∷ later) =
    pay_all setting node (pay setting node paid reader) later

-- the clusters of a level that a node reads, and those of the first so many levels
abbrev pub readers_at : Setting → ℕ → ℕ → List Reader
readers_at setting node level = map (reader_at level) (setting.readers level node)

abbrev pub readers_under : Setting → ℕ → ℕ → List Reader
readers_under setting node count =
    flat_map (readers_at setting node) (numbers_from 0 count)

-- the numbers of what was paid at so many levels are small
pub record IsSmall (levels : ℕ) (paid : Paid) : Type 0 where
  pub passed : paid.passed ≤ levels * 2 ^ 46
  pub most : paid.most ≤ levels * 2 ^ 46 + 2 ^ 33

-- what a node pays up to each of the first so many levels
pub record AreCosts (plan : PlanData) (node count : ℕ) (costs : List ℕ) : Type 0 where
  pub count_is : length costs ≡ count
  pub each : (level : ℕ) → level < count
      → slice_index costs level ≡ cost_up_to (bare plan) node level
  pub small : (level : ℕ) → level < count → slice_index costs level ≤ 2 ^ 52
