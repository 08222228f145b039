use Rattle.std.proofs.Common.{◌≡◌, ℕ, ◌+◌, ◌*◌, ◌^◌, ◌<◌, length, ◌∙◌, arith}
use Rattle.std.specs.Prelude.{get_or}
use Rattle.std.proofs.lemmas.List.{get_or_default}
use Rattle.region_plan.specs.Plan.{PlanData}
use Rattle.visit_log.specs.declared.routes.Height.{Height}
use Rattle.visit_log.specs.Routes.{ComesTo, RouteData, span_of, rung_at, rung_past, ways_past}
use Rattle.visit_log.proofs.Parts.{going, level-holds, part-within, reads}
use Rattle.visit_log.proofs.routes.Routes.past.Goals as goal

-- what the code finds in the row that it holds, as a climb has it
record Finds (plan : PlanData) (held routes : RouteData) (node level index count first : ℕ) : Type 0 where
  short : first + count < 2 ^ 32
  level_within : first + count < length held.level_of
  ways_within : first + count < length held.ways
  found_level : (found : ℕ) → found ≡ get_or held.level_of (first + count) found
      → found ≡ (rung_past plan node (rung_at level index) count).level
  start_within : (found : ℕ) → found ≡ (rung_past plan node (rung_at level index) count).level
      → node * held.levels + found < length held.starts
  -- the place of the reader among those of its level
  index_is : (found start : ℕ) → found ≡ (rung_past plan node (rung_at level index) count).level
      → start ≡ get_or held.starts (node * held.levels + found) start
      → first + count ≡ start + (rung_past plan node (rung_at level index) count).index
  weighs : (later early : ℕ) → later ≡ get_or held.ways (first + count) later → early ≡ get_or held.ways first early
      → later ≡ early + ways_past plan node (rung_at level index) count

finds : {plan : PlanData} {held routes : RouteData} {node level index count : ℕ} {span : ℕ × ℕ} → held ≡ routes
    → ComesTo plan routes node (rung_at level index) count → span ≡ span_of plan routes node (rung_at level index)
    → Finds plan held routes node level index count span.0
finds {plan} {routes = routes} {node} {level} {index} {count} {span} view on both =
    grind (arith, going, part-within, reads, level-holds, get_or_default)

pub overflow_add-place : goal.overflow_add-place
overflow_add-place c = grind (arith, finds)

pub index-level-requires : goal.index-level-requires
index-level-requires c = grind (arith, finds)

pub index-requires : goal.index-requires
index-requires c =
    let its = finds c.self.view_is c.requires.on.1 (c.span-first.ensures.exact c.requires.on.0 c.requires.on.1.at) in
    let found = its.found_level c.index-level.result.now c.index-level.ensures in
    omega (arith, its.start_within c.index-level.result.now found, c.self.inside.starts.ok.0)

pub overflow_sub-result : goal.overflow_sub-result
overflow_sub-result c = grind (arith, finds)

pub overflow_cast-result-2 : goal.overflow_cast-result-2
overflow_cast-result-2 c = grind (arith, finds)

pub index-requires-2 : goal.index-requires-2
index-requires-2 c = grind (arith, finds)

pub overflow_sub-result-2 : goal.overflow_sub-result-2
overflow_sub-result-2 c =
    let its = finds c.self.view_is c.requires.on.1 (c.span-first.ensures.exact c.requires.on.0 c.requires.on.1.at) in
    omega (arith, its.weighs c.index-2.result.now c.index-3.result.now c.index-2.ensures c.index-3.ensures)

-- where a climb is, from its parts
height-is : {level index weight there at ways : ℕ} → level ≡ there → index ≡ at → weight ≡ ways
    → ◌≡◌ {A = Height} (record { level = level; index = index; weight = weight })
    (record { level = there; index = at; weight = ways })
height-is l i w = rw (l, i, w)

pub returns : goal.returns
returns c = λ plan on.
    let its = finds c.self.view_is on (c.span-first.ensures.exact plan on.at) in
    let found = its.found_level c.index-level.result.now c.index-level.ensures in
    height-is (c.from.ensures ∙ found)
    (omega (arith, its.index_is c.index-level.result.now c.index.result.now found c.index.ensures))
    (omega (arith, its.weighs c.index-2.result.now c.index-3.result.now c.index-2.ensures c.index-3.ensures))
