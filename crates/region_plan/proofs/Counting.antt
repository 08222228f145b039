-- The most looks and the most writes of the directory over a plan, from the plan's own data.
use Rattle.std.proofs.Common.{◌≡◌, ℕ, suc, ◌+◌, ◌*◌, ◌-◌, ◌<◌, ◌≤◌, List, [], ◌∷◌, length, length-append, map, refl, take, sym, ◌∙◌, ap, arith, add-zero, zero-add}
use Rattle.std.specs.Prelude.{flat_map}
use Rattle.std.specs.List.{sum_by}
use Rattle.std.proofs.lemmas.List.{length-map, take_more}
use Rattle.std.proofs.lemmas.List.Sums.{sum_by-cons, sum_by_push}
use Rattle.directory.specs.Finds.{Reader, most_looks}
use Rattle.directory.specs.Writes.{numbers_from, most_writes}
use Rattle.region_plan.specs.Plan.{PlanData, Level, nodes_of, levels_of, level_at, level_in, no_level, readers_in}
use Rattle.region_plan.specs.Kept.{Shape, readers_for, shape_of}
use Rattle.region_plan.specs.Settings.{setting_of}

module _ (v : ℕ) (at : ℕ → Level) where
  read : ℕ → List Reader
  read j = map (λ c. record { level = j; cluster = c }) (readers_in (at j) v)

  count_read : (i : ℕ) (levels : List Level) → ((k : ℕ) → k < length levels → at (i + k) ≡ level_in levels k)
      → length {A = Reader} (flat_map (λ j. map (λ c. record { level = j; cluster = c }) (readers_in (at j) v))
      (numbers_from i (length levels))) ≡ sum_by (λ level. length (readers_in level v)) levels
  unfolding read
  count_read i [] same = refl
  count_read i (level ∷ levels) same =
      length-append {A = Reader} (read i) (flat_map read (numbers_from (suc i) (length levels)))
      ∙ ap (λ n. n + length {A = Reader} (flat_map read (numbers_from (suc i) (length levels)))) here
      ∙ ap (λ n. length (readers_in level v) + n)
      (count_read (suc i) levels (λ k h. ap at (next i k) ∙ same (suc k) (omega arith)))
      ∙ sym (sum_by-cons (λ (l : Level). length (readers_in l v)) level levels)
    where
      next : (i k : ℕ) → suc i + k ≡ i + suc k
      next i k = omega arith

      here : length {A = Reader} (map (λ c. record { level = i; cluster = c }) (readers_in (at i) v))
          ≡ length (readers_in level v)
      here = length-map {B = Reader} (readers_in (at i) v) (λ c. record { level = i; cluster = c })
          ∙ ap (λ l. length (readers_in l v)) (ap at (sym (add-zero i)) ∙ same 0 (omega arith))

pub looks_counted : (plan : PlanData) (starts : List ℕ) (v : ℕ) → 1 ≤ levels_of plan
    → most_looks (setting_of plan starts) v
    ≡ 1 + sum_by (λ level. length (readers_in level v)) plan.levels + nodes_of plan + 3
looks_counted plan starts v some =
    let count : suc (levels_of plan - 1) ≡ levels_of plan = omega arith in
    ap (λ n. 1 + n + nodes_of plan + 3)
    (ap (λ m. length {A = Reader} (flat_map
    (λ j. map (λ c. record { level = j; cluster = c }) (readers_in (level_at plan j) v)) (numbers_from 0 m))) count
    ∙ count_read v (level_at plan) 0 plan.levels (λ k h. ap (level_at plan) (zero-add k)))

pub writes_counted : (plan : PlanData) (starts : List ℕ) → 1 ≤ levels_of plan → most_writes (setting_of plan starts)
    ≡ 3 + 2 * levels_of plan + nodes_of plan
writes_counted plan starts some = omega arith

-- the readers of one level more
pub looks_more : (levels : List Level) {shape : Shape} (v i : ℕ) {old len : ℕ} → i < length levels
    → old ≡ sum_by (λ level. length (readers_in level v)) (take i levels) → shape ≡ shape_of (level_in levels i)
    → len ≡ length (readers_for shape v) → old + len ≡ sum_by (λ level. length (readers_in level v))
    (take (i + 1) levels)
looks_more levels v i {len} below before is counted =
    grind (arith, sum_by_push, take_more levels i no_level below)
