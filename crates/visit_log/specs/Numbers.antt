-- The cells of a plan in one row, by number: first the presences, node by node, and then the
-- entries, cluster by cluster and level by level, each time one cell for each subscriber.
-- Key law: `cell_numbers` (a cell's number is below the count of cells, and different cells have
-- different numbers).
use Rattle.std.specs.Prelude.{ℕ, ◌+◌, ◌*◌, ◌^◌, List, length, slice_index, sum_by, take, ◌≡◌, ◌<◌}
use Rattle.entry_word.specs.declared.visit.Key.{Key}
use Rattle.entry_word.specs.declared.visit.Key.TheVariants.{Presence, Entry}
use Rattle.directory.specs.Keys.{key_sub}
use Rattle.region_plan.specs.Plan.{PlanData, levels_of, nodes_of}
use Rattle.region_plan.specs.Cells.{IsCell}

-- how many clusters the levels below one have
abbrev pub clusters_below : PlanData → ℕ → ℕ
clusters_below plan level = sum_by (λ l. length l.clusters) (take level plan.levels)

-- how many clusters all levels have
abbrev pub cluster_count : PlanData → ℕ
cluster_count plan = sum_by (λ l. length l.clusters) plan.levels

-- the place of a node or a cluster among all nodes and clusters
abbrev pub key_place : PlanData → Key → ℕ
key_place plan (Presence node sub) = node
key_place plan (Entry level cluster sub) = nodes_of plan + clusters_below plan level + cluster

-- what contracts see of the places: how many there are, and that of each level's first cluster
pub record PlaceData : Type 0 where
  pub width : ℕ
  pub firsts : List ℕ

-- they are the places of a plan
pub record ArePlaces (plan : PlanData) (places : PlaceData) : Type 0 where
  pub width : places.width ≡ nodes_of plan + cluster_count plan
  pub few : places.width < 2 ^ 32
  pub levels : length places.firsts ≡ levels_of plan
  pub firsts : (level : ℕ) → level < levels_of plan
      → slice_index places.firsts level ≡ nodes_of plan + clusters_below plan level

-- the number of a cell among those of so many subscribers
abbrev pub cell_number : PlanData → ℕ → Key → ℕ
cell_number plan subs key = key_place plan key * subs + key_sub key

-- how many cells so many subscribers have
abbrev pub cell_count : PlanData → ℕ → ℕ
cell_count plan subs = (nodes_of plan + cluster_count plan) * subs

-- a cell's number is below the count of cells (`cell_numbers`)
abbrev pub NumbersBelow : Type 0
NumbersBelow =
    (plan : PlanData) (subs : ℕ) (key : Key) → IsCell plan subs key
    → cell_number plan subs key < cell_count plan subs

-- different cells have different numbers (`cell_numbers`)
abbrev pub NumbersApart : Type 0
NumbersApart =
    (plan : PlanData) (subs : ℕ) (key other : Key) → IsCell plan subs key → IsCell plan subs other
    → cell_number plan subs key ≡ cell_number plan subs other → key ≡ other
