-- The readers of a node in the row: one after another, level by level; what the code reads of them; and a climb that
-- comes to a reader with so many looks more, as places of the row.
use Rattle.std.proofs.Common.{◌≡◌, ℕ, zero, suc, ◌+◌, ◌-◌, ◌*◌, ◌<◌, ◌≤◌, length, take, ap, ◌∙◌, arith, List, get_or}
use Rattle.std.specs.List.{sum_by}
use Rattle.std.specs.Prelude.{slice_index}
use Rattle.std.proofs.lemmas.List.{take_all, take_more, get_or_default}
use Rattle.std.proofs.lemmas.List.Sums.{sum_by_push}
use Rattle.std.proofs.lemmas.Nat.{mul-add-lt}
use Rattle.region_plan.specs.Plan.{Level, PlanData, level_at, levels_of, no_level, nodes_of, readers, readers_in}
use Rattle.visit_log.specs.Routes.{AreRoutes, IsPart, IsRung, RouteData, Rung, entry_place, next_rung, place_in, rung_past, way_at, ways_past, IsAt}
use Rattle.std.proofs.Math.Nat.{mul-le-mul_right}

-- each level of a node has its part
pub its-part : (plan : PlanData) (routes : RouteData) (node level : ℕ) → AreRoutes plan routes → node < nodes_of plan
    → level < levels_of plan → IsPart plan routes (node * levels_of plan + level) node level
its-part plan routes node level are inside low = grind (arith, mul-add-lt)

-- the parts of a node begin one behind the other
module _ (plan : PlanData) (routes : RouteData) (node : ℕ) (are : AreRoutes plan routes)
    (inside : node < nodes_of plan) where
  abbrev pub base : ℕ
  base = node * levels_of plan

  pub next-start : (level : ℕ) → level < levels_of plan
      → slice_index routes.starts (base + suc level)
      ≡ slice_index routes.starts (base + level) + length (readers plan level node)
  next-start level low = grind (arith, its-part)

  rise-by : (level k : ℕ) → level + k ≤ levels_of plan
      → slice_index routes.starts (base + level) ≤ slice_index routes.starts (base + (level + k))
  rise-by level zero short = grind arith
  rise-by level (suc k) short = grind (arith, rise-by level k, next-start (level + k))

  pub starts-rise : (level above : ℕ) → level ≤ above → above ≤ levels_of plan
      → slice_index routes.starts (base + level) ≤ slice_index routes.starts (base + above)
  starts-rise level above order short = grind (arith, rise-by level (above - level))

  -- so many readers stand before a level
  readers-below : (level : ℕ) → level ≤ levels_of plan
      → slice_index routes.starts (base + level)
      ≡ slice_index routes.starts base + sum_by (λ l. length (readers_in l node)) (take level plan.levels)
  readers-below zero short = grind arith
  readers-below (suc level) short =
      let one : suc level ≡ level + 1 = omega arith in
      let more : sum_by (λ (l : Level). length (readers_in l node)) (take (suc level) plan.levels)
      ≡ sum_by (λ (l : Level). length (readers_in l node)) (take level plan.levels)
      + length (readers plan level node) =
      ap (sum_by (λ (l : Level). length (readers_in l node)))
      (ap (λ n. take n plan.levels) one ∙ take_more plan.levels level no_level (omega (arith, short)))
      ∙ sum_by_push (λ (l : Level). length (readers_in l node)) (take level plan.levels) (level_at plan level)
      in
      omega (arith, next-start level short, readers-below level (omega (arith, short)), more)

  -- and so many are the node's
  pub readers-summed : slice_index routes.starts (base + levels_of plan)
      ≡ slice_index routes.starts base + sum_by (λ l. length (readers_in l node)) plan.levels
  readers-summed = grind (arith, take_all, readers-below)

  -- the reader that comes next has the next place
  pub next-place : (rung : Rung) → IsRung plan node rung
      → place_in routes base (next_rung plan node rung) ≡ suc (place_in routes base rung)
  next-place rung is = grind (arith, next-start)

  -- and is one of the node's, unless this one is the last
  pub next-is : (rung : Rung) → IsRung plan node rung
      → (suc rung.level ≡ levels_of plan → length (readers plan rung.level node) ≤ suc rung.index → ⊥)
      → IsRung plan node (next_rung plan node rung)
  next-is rung is other = grind (arith, its-part)

  -- so many readers on, before the end
  pub past-is : (rung : Rung) → IsRung plan node rung → (count : ℕ)
      → place_in routes base rung + count < slice_index routes.starts (base + levels_of plan)
      → IsRung plan node (rung_past plan node rung count)
      × (place_in routes base (rung_past plan node rung count) ≡ place_in routes base rung + count)
  past-is rung is zero before = (is, omega arith)
  past-is rung is (suc count) before =
      let here = past-is rung is count (omega (arith, before)) in (
        next-is (rung_past plan node rung count) here.0 (λ top over. omega (
          arith,
          next-start,
          ap (λ n. slice_index routes.starts (base + n)) top,
          before,
          over,
        )),
        next-place (rung_past plan node rung count) here.0 ∙ omega (arith, here.1),
      )

  -- a reader lies before the end of its node
  pub before-end : (rung : Rung) → IsRung plan node rung
      → place_in routes base rung < slice_index routes.starts (base + levels_of plan)
  before-end rung is = grind (arith, next-start, starts-rise (suc rung.level) (levels_of plan))

  -- what is at its place
  pub place-holds : (rung : Rung) → IsRung plan node rung
      → slice_index routes.places (place_in routes base rung) ≡ entry_place plan node rung
  place-holds rung is = (its-part plan routes node rung.level are inside is.level).places rung.index is.index

  pub way-holds : (rung : Rung) → IsRung plan node rung
      → slice_index routes.ways (place_in routes base rung + 1)
      ≡ slice_index routes.ways (place_in routes base rung) + way_at plan node rung
  way-holds rung is = (its-part plan routes node rung.level are inside is.level).ways rung.index is.index

  -- the ways to so many readers
  pub ways-hold : (rung : Rung) → IsRung plan node rung → (count : ℕ)
      → place_in routes base rung + count < slice_index routes.starts (base + levels_of plan)
      → slice_index routes.ways (place_in routes base rung + count)
      ≡ slice_index routes.ways (place_in routes base rung) + ways_past plan node rung count
  ways-hold rung is zero before = grind arith
  ways-hold rung is (suc count) before =
      let here = past-is rung is count (omega (arith, before)) in
      grind (arith, ways-hold rung is count, way-holds (rung_past plan node rung count))

  -- and its level
  pub level-holds : (rung : Rung) → IsRung plan node rung
      → slice_index routes.level_of (place_in routes base rung) ≡ rung.level
  level-holds rung is = (its-part plan routes node rung.level are inside is.level).level_of rung.index is.index

-- a number that is read
pub reads : {items held : List ℕ} {k at v : ℕ} → v ≡ get_or items k v → items ≡ held → k ≡ at → at < length held
    → v ≡ slice_index held at
reads {held} {k} {at} {v} read same there short = grind (arith, get_or_default)

-- the starts of a node's parts are there, and the last one's end
pub part-within : (plan : PlanData) (routes : RouteData) (node level : ℕ) → AreRoutes plan routes → node < nodes_of plan
    → level ≤ levels_of plan → node * levels_of plan + level < length routes.starts
part-within plan routes node level are inside low = grind (arith, mul-le-mul_right)

-- a start that is read
pub start-read : {plan : PlanData} {held routes : RouteData} (node level : ℕ) {v : ℕ} → held ≡ routes
    → AreRoutes plan routes → node < nodes_of plan → level ≤ levels_of plan
    → v ≡ get_or held.starts (node * held.levels + level) v
    → v ≡ slice_index routes.starts (node * levels_of plan + level)
start-read {plan} {routes = routes} node level view are inside low read = grind (arith, reads, part-within)

pub end-read : {plan : PlanData} {held routes : RouteData} (node : ℕ) {v : ℕ} → held ≡ routes → AreRoutes plan routes
    → node < nodes_of plan → v ≡ get_or held.starts (node * held.levels + held.levels) v
    → v ≡ slice_index routes.starts (node * levels_of plan + levels_of plan)
end-read {plan} {routes = routes} node view are inside read = grind (arith, reads, part-within)

-- the readers of a node end within the row
pub end-within : (plan : PlanData) (routes : RouteData) (node : ℕ) → AreRoutes plan routes → node < nodes_of plan
    → 1 ≤ levels_of plan → slice_index routes.starts (node * levels_of plan + levels_of plan) ≤ length routes.places
end-within plan routes node are inside some =
    grind (arith, its-part plan routes node (levels_of plan - 1) are inside)

-- between the starts that are read lie the readers of a node
pub readers-between : (plan : PlanData) {held routes : RouteData} (node : ℕ) {first end : ℕ} → held ≡ routes
    → AreRoutes plan routes → node < nodes_of plan → first ≡ get_or held.starts (node * held.levels) first
    → end ≡ get_or held.starts (node * held.levels + held.levels) end
    → end ≡ first + sum_by (λ l. length (readers_in l node)) plan.levels
readers-between plan {held} {routes} node {first} view are inside reads_first reads_end =
    grind (arith, start-read node 0 {v = first} view are inside, end-read, readers-summed plan routes node are inside)

-- levels don't fall
next-rises : (plan : PlanData) (node : ℕ) (rung : Rung) → rung.level ≤ (next_rung plan node rung).level
next-rises plan node rung = grind arith

-- where it is then, and what the ways weigh
pub record Going (plan : PlanData) (routes : RouteData) (node : ℕ) (rung : Rung) (count : ℕ) : Type 0 where
  pub before : place_in routes (node * levels_of plan) rung + count < length routes.places
  pub there : place_in routes (node * levels_of plan) (rung_past plan node rung count)
      ≡ place_in routes (node * levels_of plan) rung + count
  pub ways : slice_index routes.ways (place_in routes (node * levels_of plan) rung + count)
      ≡ slice_index routes.ways (place_in routes (node * levels_of plan) rung) + ways_past plan node rung count

module _ (plan : PlanData) (routes : RouteData) (node : ℕ) (rung : Rung) (at : IsAt plan routes node rung) where
  pub goes-along : (count : ℕ) → (rung_past plan node rung count).level < levels_of plan
      → IsRung plan node (rung_past plan node rung count)
      × (place_in routes (node * levels_of plan) (rung_past plan node rung count)
      ≡ place_in routes (node * levels_of plan) rung + count)
  goes-along zero low = (at.is, omega arith)
  goes-along (suc count) low =
      let here = goes-along count (omega (arith, low, next-rises plan node (rung_past plan node rung count))) in
      grind (arith, next-is, next-place)

  pub going : (count : ℕ) → IsRung plan node (rung_past plan node rung count)
      → Going plan routes node rung count
  going count on =
      let there = goes-along count on.level in
      let before : place_in routes (node * levels_of plan) rung + count
      < slice_index routes.starts (node * levels_of plan + levels_of plan) = grind (arith, before-end) in
      record {
        before = omega (
          arith,
          before,
          end-within plan routes node at.are at.inside (omega (arith, at.is.level)),
        );
        there = there.1;
        ways = ways-hold plan routes node at.are at.inside rung at.is count before;
      }
