-- Which keys name cells of a plan: a presence lies at a node, an entry at a cluster of a level.
-- Key law: in visit_log, `cell_numbers` (different cells have different numbers).
use Rattle.std.specs.Prelude.{ℕ, ◌<◌}
use Rattle.entry_word.specs.declared.visit.Key.{Key}
use Rattle.entry_word.specs.declared.visit.Key.TheVariants.{Presence, Entry}
use Rattle.directory.specs.Keys.{key_sub}
use Rattle.region_plan.specs.Plan.{PlanData, nodes_of, levels_of, clusters_of}

-- a key names a node, or a cluster of a level
abbrev pub IsPlace : PlanData → Key → Type 0
IsPlace plan (Presence node sub) = node < nodes_of plan
IsPlace plan (Entry level cluster sub) =
    (level < levels_of plan) × (cluster < clusters_of plan level)

-- and one of so many subscribers
pub record IsCell (plan : PlanData) (subs : ℕ) (key : Key) : Type 0 where
  pub place : IsPlace plan key
  pub known : key_sub key < subs
