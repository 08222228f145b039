-- Where subscribers start changes no stretch of a plan.
use Rattle.std.proofs.Common.{◌≡◌, ℕ, ◌+◌, ◌-◌, ◌*◌, ◌≤◌, max, List, [], ◌∷◌, refl, ap, ap₂, ◌∙◌, arith}
use Rattle.std.specs.Prelude.{◌==◌, if◌then◌else◌, min, suc}
use Rattle.directory.specs.Finds.{Reader}
use Rattle.directory.specs.Writes.{numbers_from}
use Rattle.region_plan.specs.Plan.{levels_of, nodes_of, PlanData}
use Rattle.region_plan.specs.Settings.{setting_of}
use Rattle.stretch_laws.specs.Costs.{readers_up_to}
use Rattle.busy_finds.specs.Levels.{cost_up_to, dearest, farthest_of, inside_of, level_for}
use Rattle.own_stretch.specs.OwnStretch.{any_stretch_of, greatest_below, own_stretch_of, stretch_between, stretch_past, units_of}
use Rattle.own_stretch.specs.Tables.{bare}
use Rattle.own_stretch.proofs.Greatest.{greatest-same}

module _ (plan : PlanData) (starts : List ℕ) where
  farthest-same : (level cluster : ℕ) (nodes : List ℕ)
      → farthest_of (bare plan) level cluster nodes ≡ farthest_of (setting_of plan starts) level cluster nodes
  farthest-same level cluster [] = refl
  farthest-same level cluster (node ∷ later) =
      ap (λ rest. if (bare plan).home level node == cluster
      then max ((bare plan).distance ((bare plan).leader level cluster) node) rest
      else rest) (farthest-same level cluster later)

  dearest-same : (node passed : ℕ) (readers : List Reader)
      → dearest (bare plan) node passed readers ≡ dearest (setting_of plan starts) node passed readers
  dearest-same node passed [] = refl
  dearest-same node passed (reader ∷ later) =
      ap₂ (λ far rest. max (passed + 2 * inside_of (bare plan) node reader + 2 * far
      + 2 * (bare plan).threshold reader.level - 2) rest)
      (farthest-same reader.level reader.cluster (numbers_from 0 (nodes_of plan)))
      (dearest-same node (passed + 2 * inside_of (bare plan) node reader) later)

  cost-same : (node level : ℕ) → cost_up_to (bare plan) node level ≡ cost_up_to (setting_of plan starts) node level
  cost-same node level = dearest-same node 0 (readers_up_to (bare plan) node level)

  between-same : (from to : ℕ) → stretch_between (bare plan) from to ≡ stretch_between (setting_of plan starts) from to
  between-same from to =
      ap (λ cost. if from == to then 0 else units_of (cost + (bare plan).distance from to)
      ((bare plan).distance from to)) (cost-same from (level_for (bare plan) ((bare plan).distance from to)))

  past-same : (from level : ℕ) → stretch_past (bare plan) from level ≡ stretch_past (setting_of plan starts) from level
  past-same from level =
      ap (λ cost. units_of cost ((bare plan).threshold level) + 1) (cost-same from (min (suc level) (bare plan).top))

  pub own-same : own_stretch_of (bare plan) ≡ own_stretch_of (setting_of plan starts)
  own-same =
      greatest-same (λ from. greatest_below (stretch_between (bare plan) from) (nodes_of plan))
      (λ from. greatest_below (stretch_between (setting_of plan starts) from) (nodes_of plan)) (nodes_of plan)
      (λ from low. greatest-same (stretch_between (bare plan) from) (stretch_between (setting_of plan starts) from)
      (nodes_of plan) (λ to high. between-same from to))

  pub any-same : any_stretch_of (bare plan) ≡ any_stretch_of (setting_of plan starts)
  any-same =
      ap₂ max own-same
      (greatest-same (λ from. greatest_below (stretch_past (bare plan) from) (suc (bare plan).top))
      (λ from. greatest_below (stretch_past (setting_of plan starts) from) (suc (bare plan).top)) (nodes_of plan)
      (λ from low. greatest-same (stretch_past (bare plan) from) (stretch_past (setting_of plan starts) from)
      (suc (bare plan).top) (λ level under. past-same from level)))

-- what is found from all nodes, past all levels
pub all-own : (plan : PlanData) (starts : List ℕ) (from : ℕ) {own : ℕ} → from ≡ nodes_of plan
    → own ≡ greatest_below (λ other. greatest_below (stretch_between (bare plan) other) (nodes_of plan)) from
    → own ≡ own_stretch_of (setting_of plan starts)
all-own plan starts from all is =
    is
    ∙ (ap (greatest_below (λ other. greatest_below (stretch_between (bare plan) other) (nodes_of plan))) all
    ∙ own-same plan starts)

pub all-any : (plan : PlanData) (starts : List ℕ) (from : ℕ) {own any most : ℕ} → 1 ≤ levels_of plan
    → from ≡ nodes_of plan
    → own ≡ greatest_below (λ other. greatest_below (stretch_between (bare plan) other) (nodes_of plan)) from
    → any ≡ greatest_below (λ other. greatest_below (stretch_past (bare plan) other) (levels_of plan)) from
    → most ≡ max own any → most ≡ any_stretch_of (setting_of plan starts)
all-any plan starts from some all own any greater =
    let top : levels_of plan ≡ suc (levels_of plan - 1) = omega (arith, some) in
    greater
    ∙ (ap₂ max (own
    ∙ ap (greatest_below (λ other. greatest_below (stretch_between (bare plan) other) (nodes_of plan))) all)
    (any
    ∙ ap₂ (λ levels count. greatest_below (λ other. greatest_below (stretch_past (bare plan) other) levels) count)
    top all)
    ∙ any-same plan starts)
