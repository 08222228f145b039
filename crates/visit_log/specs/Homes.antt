-- The homes of all nodes in one row, node by node and level by level, by the places of their
-- entries.
-- Key laws: `Homes::new` (`AreHomes`) and `of` (the homes of a node at all levels).
use Rattle.std.specs.Prelude.{◌≡◌, ℕ, ◌+◌, ◌*◌, ◌<◌, List, length, slice_index}
use Rattle.region_plan.specs.Plan.{PlanData, home, levels_of, nodes_of}
use Rattle.visit_log.specs.Numbers.{clusters_below}

-- what contracts see of the homes: how many levels there are, and the places
pub record HomeData : Type 0 where
  pub levels : ℕ
  pub places : List ℕ

-- the place of the entries of a node's home at a level
abbrev pub home_place : PlanData → ℕ → ℕ → ℕ
home_place plan node level = nodes_of plan + clusters_below plan level + home plan level node

-- the first so many places are those of the nodes and levels of a plan
pub record HaveHomes (plan : PlanData) (homes : HomeData) (count : ℕ) : Type 0 where
  pub levels : homes.levels ≡ levels_of plan
  pub count_is : length homes.places ≡ count
  pub places : (node level : ℕ) → level < levels_of plan → node * levels_of plan + level < count
      → slice_index homes.places (node * levels_of plan + level) ≡ home_place plan node level

-- the homes are those of a plan
abbrev pub AreHomes : PlanData → HomeData → Type 0
AreHomes plan homes = HaveHomes plan homes (nodes_of plan * levels_of plan)
