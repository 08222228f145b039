-- How the row grows: by the readers of a node at a level, one after another.
use Rattle.std.specs.Prelude.{slice_index}
use Rattle.std.proofs.Common.{◌≡◌, ℕ, suc, ◌+◌, ◌*◌, ◌^◌, ◌<◌, ◌≤◌, List, [], ◌∷◌, ◌++◌, length, ap, ◌∙◌, inl, inr, arith, Vec, Global}
use Rattle.std.proofs.lemmas.Bool.{cases_lt}
use Rattle.std.proofs.lemmas.List.{get_or_append_left, get_or_push, length_push}
use Rattle.std.proofs.lemmas.Nat.{mul-add-lt}
use Rattle.std.proofs.Math.Nat.{mul-le-mul}
use Rattle.region_plan.specs.Kept.{IsKept}
use Rattle.region_plan.specs.Plan.{PlanData, levels_of, nodes_of, readers}
use Rattle.visit_log.specs.Routes.{HaveParts, IsPart, RouteData, entry_place, rung_at, way_at}
use Rattle.visit_log.proofs.Apart.{same-part}

-- the row of these lists
abbrev pub row_of : (levels : ℕ) (starts places level_of ways : Vec ℕ Global) → RouteData
row_of levels starts places level_of ways =
    record {
      levels = levels;
      starts = starts.items;
      places = places.items;
      level_of = level_of.items;
      ways = ways.items;
    }

-- parts are few
pub parts-few : {plan : PlanData} (node level : ℕ) → IsKept plan → node < nodes_of plan → level < levels_of plan
    → node * levels_of plan + level < 31744
parts-few {plan} node level kept inside low = grind (arith, mul-add-lt, mul-le-mul)

-- a number is pushed to a list
pub record IsPushed (old new : List ℕ) (n : ℕ) : Type 0 where
  pub size : length new ≡ suc (length old)
  pub before : (i : ℕ) → i < length old → slice_index new i ≡ slice_index old i
  pub last : (i : ℕ) → i ≡ length old → slice_index new i ≡ n

pub pushed : {old new : List ℕ} {n : ℕ} → new ≡ old ++ n ∷ [] → IsPushed old new n
pushed {old} {n = n} is = grind (arith, length_push, get_or_append_left, get_or_push)

-- so many readers of a node at a level stand behind what was there
pub record IsAdding (plan : PlanData) (old new : RouteData) (node level count : ℕ) : Type 0 where
  pub levels : new.levels ≡ old.levels
  pub starts : new.starts ≡ old.starts
  pub level_of : new.level_of ≡ old.level_of
  pub size : length new.places ≡ length old.places + count
  pub ways_size : length new.ways ≡ length new.places + 1
  pub places_before : (i : ℕ) → i < length old.places
      → slice_index new.places i ≡ slice_index old.places i
  pub ways_before : (i : ℕ) → i < length old.places + 1 → slice_index new.ways i ≡ slice_index old.ways i
  pub places : (i : ℕ) → i < count
      → slice_index new.places (length old.places + i) ≡ entry_place plan node (rung_at level i)
  pub ways : (i : ℕ) → i < count
      → slice_index new.ways (length old.places + i + 1)
      ≡ slice_index new.ways (length old.places + i) + way_at plan node (rung_at level i)
  pub light : slice_index new.ways (length new.places) ≤ length new.places * 2 ^ 36

-- one more of them
pub adding-more : {plan : PlanData} {old new : RouteData} {places ways : List ℕ} {node level count place sum : ℕ}
    → IsAdding plan old new node level count → places ≡ new.places ++ place ∷ [] → ways ≡ new.ways ++ sum ∷ []
    → place ≡ entry_place plan node (rung_at level count) → sum ≡ slice_index new.ways (length new.places) + way_at plan
    node (rung_at level count) → sum ≤ suc (length new.places) * 2 ^ 36
    → IsAdding plan old (record new { places = places; ways = ways }) node level (count + 1)
adding-more {old = old} {places = places} adding places_are ways_are is way light =
    grind (arith, pushed places_are, pushed ways_are)

-- a list is filled with a level up to a size
pub record IsTold (old new : List ℕ) (size level : ℕ) : Type 0 where
  pub filled : length new ≡ size
  pub before : (i : ℕ) → i < length old → slice_index new i ≡ slice_index old i
  pub behind : (i : ℕ) → length old ≤ i → i < size → slice_index new i ≡ level

-- all of them, and the start of the next part
pub adding-done : {plan : PlanData} {old new : RouteData} {starts level_of : List ℕ} {node level count : ℕ}
    → level < levels_of plan → HaveParts plan old (node * levels_of plan + level)
    → IsAdding plan old new node level count → count ≡ length (readers plan level node) → 1 ≤ count → count ≤ 1024
    → starts ≡ new.starts ++ length new.places ∷ [] → IsTold new.level_of level_of (length new.places) level
    → length new.places < 2 ^ 32
    → HaveParts plan (record new { starts = starts; level_of = level_of }) (node * levels_of plan + level + 1)
adding-done {plan} {old} {starts = starts} {node = node} {level} low have adding all some few are told short =
    let parts : ℕ = node * levels_of plan + level in
    let start = pushed are in
    let start_before : (k : ℕ) → k < length old.starts → slice_index starts k ≡ slice_index old.starts k =
    λ k less. rw (← adding.starts) (start.before k (rw adding.starts less)) in
    let here : slice_index starts parts ≡ length old.places = grind arith in
    record {
      levels = adding.levels ∙ have.levels;
      thin = omega (arith, adding.levels, have.thin);
      starts = omega (arith, start.size, ap length adding.starts, have.starts);
      last = start.last (parts + 1) (omega (arith, ap length adding.starts, have.starts));
      level_of = told.filled;
      ways = adding.ways_size;
      few = omega (arith, adding.size, few, have.few);
      short = short;
      light = adding.light;
      parts = λ other above high before. elim (cases_lt (other * levels_of plan + above) parts) [
        | inl less ↦
            let part : ℕ = other * levels_of plan + above in
            let was : IsPart plan old part other above = have.parts other above high less in
            let begins = start_before part (omega (arith, less, have.starts)) in
            let ends = start_before (part + 1) (omega (arith, less, have.starts)) in
            let size = ap length adding.level_of in
            grind arith
        | inr over ↦
            let both = same-part (levels_of plan) node level other above low high (omega (arith, before, over)) in
            rw (both.0, both.1) (grind arith)
      ];
    }
