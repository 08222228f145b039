-- The readers of all nodes in one row, node by node and level by level: a climb from a node looks
-- at its entries in this order. Beside each reader is the place of its entries, its level, and the
-- weight of the ways, there and back, to all leaders before it in the row.
-- Key laws: `Routes::new` (`AreRoutes`), `ahead` (the places of the entries that a climb comes to,
-- one after another) and `past` (where it is past so many of them, and what they weigh).
use Rattle.std.specs.Prelude.{◌≡◌, ℕ, zero, suc, ◌+◌, ◌*◌, ◌^◌, ◌<◌, ◌≤◌, List, length, slice_index, nat_lt, if◌then◌else◌}
use Rattle.region_plan.specs.Plan.{PlanData, inside, levels_of, nodes_of, readers}
use Rattle.visit_log.specs.Numbers.{clusters_below}
use Rattle.visit_log.specs.declared.routes.Height.{Height}

-- what contracts see of the routes: how many levels there are; where the readers of each node and
-- level begin in the row; and for each reader its place, its level and the weight before it
pub record RouteData : Type 0 where
  pub levels : ℕ
  pub starts : List ℕ
  pub places : List ℕ
  pub level_of : List ℕ
  pub ways : List ℕ

-- a reader of a node, by its level and its place among the readers there
pub record Rung : Type 0 where
  pub level : ℕ
  pub index : ℕ

-- the reader at a level and a place
abbrev pub rung_at : ℕ → ℕ → Rung
rung_at level index = record { level = level; index = index }

-- there is such a reader
pub record IsRung (plan : PlanData) (node : ℕ) (rung : Rung) : Type 0 where
  pub level : rung.level < levels_of plan
  pub index : rung.index < length (readers plan rung.level node)

-- the cluster that the node reads there
abbrev pub reader_at : PlanData → ℕ → Rung → ℕ
reader_at plan node rung = slice_index (readers plan rung.level node) rung.index

-- the place of its entries
abbrev pub entry_place : PlanData → ℕ → Rung → ℕ
entry_place plan node rung =
    nodes_of plan + clusters_below plan rung.level + reader_at plan node rung

-- the weight of the way to its leader, there and back
abbrev pub way_at : PlanData → ℕ → Rung → ℕ
way_at plan node rung = 2 * inside plan rung.level (reader_at plan node rung) node

-- the reader that a climb comes to next: of the same level, or the first of the level above
abbrev pub next_rung : PlanData → ℕ → Rung → Rung
next_rung plan node rung =
    if nat_lt (suc rung.index) (length (readers plan rung.level node))
    then rung_at rung.level (suc rung.index) else rung_at (suc rung.level) 0

-- and so many readers on
abbrev pub rung_past : PlanData → ℕ → Rung → ℕ → Rung
rung_past plan node rung zero = rung
rung_past plan node rung (suc count) = next_rung plan node (rung_past plan node rung count)

-- what the ways weigh to so many readers from one on
abbrev pub ways_past : PlanData → ℕ → Rung → ℕ → ℕ
ways_past plan node rung zero = 0
ways_past plan node rung (suc count) =
    ways_past plan node rung count + way_at plan node (rung_past plan node rung count)

-- the readers of a node at a level have a part of the row
pub record IsPart (plan : PlanData) (routes : RouteData) (part node level : ℕ) : Type 0 where
  pub some : 1 ≤ length (readers plan level node)
  pub next : slice_index routes.starts (part + 1)
      ≡ slice_index routes.starts part + length (readers plan level node)
  pub within : slice_index routes.starts (part + 1) ≤ length routes.places
  pub places : (index : ℕ) → index < length (readers plan level node)
      → slice_index routes.places (slice_index routes.starts part + index)
      ≡ entry_place plan node (rung_at level index)
  pub level_of : (index : ℕ) → index < length (readers plan level node)
      → slice_index routes.level_of (slice_index routes.starts part + index) ≡ level
  pub ways : (index : ℕ) → index < length (readers plan level node)
      → slice_index routes.ways (slice_index routes.starts part + index + 1)
      ≡ slice_index routes.ways (slice_index routes.starts part + index)
      + way_at plan node (rung_at level index)

-- the first so many parts are those of the nodes and levels of a plan
pub record HaveParts (plan : PlanData) (routes : RouteData) (count : ℕ) : Type 0 where
  pub levels : routes.levels ≡ levels_of plan
  pub thin : routes.levels ≤ 31
  pub starts : length routes.starts ≡ count + 1
  pub last : slice_index routes.starts count ≡ length routes.places
  pub level_of : length routes.level_of ≡ length routes.places
  pub ways : length routes.ways ≡ length routes.places + 1
  pub few : length routes.places ≤ count * 1024
  pub short : length routes.places < 2 ^ 32
  pub light : slice_index routes.ways (length routes.places) ≤ length routes.places * 2 ^ 36
  pub parts : (node level : ℕ) → level < levels_of plan → node * levels_of plan + level < count
      → IsPart plan routes (node * levels_of plan + level) node level

-- the routes are those of a plan
abbrev pub AreRoutes : PlanData → RouteData → Type 0
AreRoutes plan routes = HaveParts plan routes (nodes_of plan * levels_of plan)

-- a climb from a node is at a reader, over a plan whose routes these are
pub record IsAt (plan : PlanData) (routes : RouteData) (node : ℕ) (rung : Rung) : Type 0 where
  pub are : AreRoutes plan routes
  pub inside : node < nodes_of plan
  pub is : IsRung plan node rung

-- and it comes to a reader with so many looks more
pub record ComesTo (plan : PlanData) (routes : RouteData) (node : ℕ) (rung : Rung) (count : ℕ) :
    Type 0 where
  pub at : IsAt plan routes node rung
  pub on : IsRung plan node (rung_past plan node rung count)

-- where it is then
abbrev pub height_of : PlanData → ℕ → Rung → ℕ → Height
height_of plan node rung count =
    record {
      level = (rung_past plan node rung count).level;
      index = (rung_past plan node rung count).index;
      weight = ways_past plan node rung count;
    }

-- its place in the row
abbrev pub place_in : RouteData → ℕ → Rung → ℕ
place_in routes part rung = slice_index routes.starts (part + rung.level) + rung.index

-- and with it where the readers of its node end
abbrev pub span_of : PlanData → RouteData → ℕ → Rung → ℕ × ℕ
span_of plan routes node rung = (
  place_in routes (node * levels_of plan) rung,
  slice_index routes.starts (node * levels_of plan + levels_of plan),
)
