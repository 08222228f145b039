-- Places of cells: below the count, and different for different cells.
use Rattle.std.proofs.Common.{◌≡◌, ℕ, ◌+◌, ◌*◌, ◌<◌, ◌≤◌, List, length, take, ap, ◌∙◌, subst, arith}
use Rattle.std.specs.Prelude.{get_or, sum_by}
use Rattle.std.proofs.lemmas.List.{take-take}
use Rattle.std.proofs.lemmas.List.Sums.{sum_by_more, sum_by-take-le}
use Rattle.std.proofs.Math.Nat.{mul-le-mul_left}
use Rattle.entry_word.specs.declared.visit.Key.{Key}
use Rattle.entry_word.specs.declared.visit.Key.TheVariants.{Presence, Entry}
use Rattle.directory.specs.Keys.{key_sub}
use Rattle.region_plan.specs.Plan.{PlanData, Level, no_level, nodes_of, levels_of, clusters_of}
use Rattle.visit_log.specs.Cells.{CellData, GoWith, IsPlaceOf, slot_of, width_of}
use Rattle.region_plan.specs.Cells.{IsPlace, IsCell}
use Rattle.visit_log.specs.Numbers.{clusters_below, cluster_count, key_place, NumbersBelow, NumbersApart}
use Rattle.std.proofs.lemmas.Bool.{cases_lt}
use Rattle.std.proofs.lemmas.Nat.{div-mul-add}

-- the clusters of a level come before those of each later one, and are among all
abbrev pub size : Level → ℕ
size l = length l.clusters

pub below-later : (levels : List Level) (i j : ℕ) → i < j → j ≤ length levels → sum_by size (take i levels) + size
    (get_or levels i no_level) ≤ sum_by size (take j levels)
below-later levels i j h l =
    let one : sum_by size (take (i + 1) levels) ≡ sum_by size (take i levels) + size (get_or levels i no_level) =
    sum_by_more size levels i no_level (omega (arith, h, l)) in
    let two : sum_by size (take (i + 1) (take j levels)) ≤ sum_by size (take j levels) = sum_by-take-le size
    (take j levels) (i + 1) in
    let same : sum_by size (take (i + 1) (take j levels)) ≡ sum_by size (take (i + 1) levels) = ap (sum_by size)
    (take-take (i + 1) j levels (omega (arith, h))) in
    subst (λ n. n ≤ sum_by size (take j levels)) (same ∙ one) two

pub below-all : (levels : List Level) (i : ℕ) → i < length levels → sum_by size (take i levels) + size
    (get_or levels i no_level) ≤ sum_by size levels
below-all levels i h = subst (λ n. n ≤ sum_by size levels) (sum_by_more size levels i no_level h)
    (sum_by-take-le size levels (i + 1))

-- places
pub place-below : (plan : PlanData) (key : Key) → IsPlace plan key
    → key_place plan key < nodes_of plan + cluster_count plan
place-below plan (Presence node sub) h = omega (arith, h)
place-below plan (Entry level cluster sub) h = omega (arith, h.1, below-all plan.levels level h.0)

level-apart : (plan : PlanData) (i c j d : ℕ) → i < levels_of plan → c < clusters_of plan i → j < levels_of plan
    → d < clusters_of plan j
    → clusters_below plan i + c ≡ clusters_below plan j + d → (i ≡ j) × (c ≡ d)
level-apart plan i c j d hi hc hj hd same =
    grind (arith, cases_lt i j, cases_lt j i, below-later plan.levels i j, below-later plan.levels j i)

-- a place and a subscriber in one number
pub number-below : (place total subs sub : ℕ) → place < total → sub < subs → place * subs + sub < total * subs
number-below place total subs sub h l = grind (arith, mul-le-mul_left)

-- one part of a row is another where node and level are
pub same-part : (width node level other above : ℕ) → level < width → above < width
    → other * width + above ≡ node * width + level → (other ≡ node) × (above ≡ level)
same-part width node level other above low high same =
    let nodes : other ≡ node = grind (arith, div-mul-add) in
    (nodes, omega (arith, ap (λ n. n * width) nodes, same))

-- keys
same-key : (plan : PlanData) (key other : Key) → IsPlace plan key → IsPlace plan other → key_place plan key
    ≡ key_place plan other → key_sub key ≡ key_sub other → key ≡ other
same-key plan (Presence node sub) (Presence other t) h l same subs = cc
same-key plan (Presence node sub) (Entry level cluster t) h l same subs = absurd (omega (arith, h, same))
same-key plan (Entry level cluster sub) (Presence node t) h l same subs = absurd (omega (arith, l, same))
same-key plan (Entry level cluster sub) (Entry other c t) h l same subs =
    grind (arith, level-apart plan level cluster other c)

pub cell-below : NumbersBelow
cell-below plan subs key h = number-below (key_place plan key) (nodes_of plan + cluster_count plan) subs
    (key_sub key) (place-below plan key h.place) h.known

pub cell-apart : NumbersApart
cell-apart plan subs key other h l same =
    grind (
      arith,
      same-part subs (key_place plan other) (key_sub other) (key_place plan key) (key_sub key),
      same-key plan key other,
    )

-- slots of cells
pub slot-within : {plan : PlanData} {cells : CellData} {key : Key} → GoWith plan cells → IsCell plan cells.subs key
    → slot_of plan key < length cells.words
slot-within {plan} {cells} {key} goes h = grind (arith, number-below, place-below)

pub slot-apart : {plan : PlanData} {subs : ℕ} {key other : Key} → IsCell plan subs key → IsCell plan subs other
    → slot_of plan key ≡ slot_of plan other → key ≡ other
slot-apart {plan} {key} {other} h l same =
    let both : (key_sub key ≡ key_sub other) × (key_place plan key ≡ key_place plan other) =
    same-part (width_of plan) (key_sub other) (key_place plan other) (key_sub key) (key_place plan key)
    (place-below plan other l.place) (place-below plan key h.place) same in
    same-key plan key other h.place l.place both.1 both.0

-- where the word of a cell is, by its place
pub slot-at : {plan : PlanData} {cells : CellData} {sub at width : ℕ} {key : Key} → GoWith plan cells
    → width ≡ cells.width → IsPlaceOf plan cells.subs sub at key → sub * width + at ≡ slot_of plan key
slot-at {plan} {sub} {width} {key} goes wide its = grind arith
