-- What nodes pay is small.
use Rattle.std.proofs.Common.{◌≡◌, ℕ, zero, suc, ◌+◌, ◌-◌, ◌^◌, ◌<◌, ◌≤◌, max, Bool, true, false, cond, length, arith}
use Rattle.std.specs.Prelude.{◌==◌, slice_index}
use Rattle.std.proofs.Math.Nat.{mul-le-mul_right, pow-le-pow_right}
use Rattle.std.proofs.lemmas.Bool.{lt-ltb}
use Rattle.directory.specs.Writes.{numbers_from}
use Rattle.region_plan.specs.Kept.{IsKept}
use Rattle.region_plan.specs.Matched.{BoundsFinds, IsMatched, IsWithinReach}
use Rattle.region_plan.specs.Plan.{clusters_of, distance, inside, leader, levels_of, nodes_of, PlanData, readers, threshold}
use Rattle.region_plan.specs.ReaderLaws.{reader-held, way-light}
use Rattle.region_plan.specs.Regions.{threshold_of}
use Rattle.busy_finds.specs.Levels.{farthest, farthest_of}
use Rattle.own_stretch.specs.Tables.{bare, reader_at}

-- a distance is small
pub distance-small : (plan : PlanData) (u v : ℕ) → IsKept plan → u < nodes_of plan → v < nodes_of plan
    → distance plan u v ≤ 2 ^ 30
distance-small plan u v kept low high =
    omega (
      arith,
      kept.metric.bounded u v low high,
      kept.metric.few,
      mul-le-mul_right 1048576 (let h : nodes_of plan - 1 ≤ 1023 = omega (arith, kept.metric.few) in h),
    )

-- and the setting tells it
pub its-distance : (plan : PlanData) (u v : ℕ) → u < nodes_of plan → v < nodes_of plan
    → (bare plan).distance u v ≡ distance plan u v
its-distance plan u v low high = grind (arith, lt-ltb)

-- a leader is a node
pub leader-inside : (plan : PlanData) (level cluster : ℕ) → IsMatched plan → level < levels_of plan
    → cluster < clusters_of plan level → leader plan level cluster < nodes_of plan
leader-inside plan level cluster matched low few =
    matched.within level cluster (leader plan level cluster) low few (matched.led level cluster low few)

-- the farthest node isn't far
farthest-few : (plan : PlanData) (level cluster first count : ℕ) → IsKept plan → IsMatched plan
    → level < levels_of plan → cluster < clusters_of plan level → first + count ≤ nodes_of plan
    → farthest_of (bare plan) level cluster (numbers_from first count) ≤ 2 ^ 30
farthest-few plan level cluster first zero kept matched low few room = omega arith
farthest-few plan level cluster first (suc count) kept matched low few room =
    at_test ((bare plan).home level first == cluster)
    (farthest-few plan level cluster (suc first) count kept matched low few (omega (arith, room)))
    (omega (
      arith,
      its-distance plan (leader plan level cluster) first (leader-inside plan level cluster matched low few)
          (omega (arith, room)),
      distance-small plan (leader plan level cluster) first kept (leader-inside plan level cluster matched low few)
          (omega (arith, room)),
    ))
  where
    at_test : (b : Bool) → farthest_of (bare plan) level cluster (numbers_from (suc first) count) ≤ 2 ^ 30
        → (bare plan).distance (leader plan level cluster) first ≤ 2 ^ 30
        → cond b (max ((bare plan).distance (leader plan level cluster) first)
        (farthest_of (bare plan) level cluster (numbers_from (suc first) count)))
        (farthest_of (bare plan) level cluster (numbers_from (suc first) count)) ≤ 2 ^ 30
    at_test true later here = omega (arith, later, here)
    at_test false later here = later

pub farthest-small : (plan : PlanData) (level cluster : ℕ) → IsKept plan → IsMatched plan → level < levels_of plan
    → cluster < clusters_of plan level → farthest (bare plan) (reader_at level cluster) ≤ 2 ^ 30
farthest-small plan level cluster kept matched low few =
    farthest-few plan level cluster 0 (nodes_of plan) kept matched low few (omega arith)

-- a threshold is some, and small
threshold-between : (level : ℕ) → level ≤ 30 → (1 ≤ threshold_of level) × (threshold_of level ≤ 2 ^ 30)
threshold-between zero low = (omega arith, omega arith)
threshold-between (suc level) low =
    let two : 0 < 2 = omega arith in
    let up : 2 ^ level ≤ 2 ^ 30 = pow-le-pow_right {n = 2} two {i = level} {j = 30} (omega (arith, low)) in
    let some : 2 ^ 0 ≤ 2 ^ level = pow-le-pow_right {n = 2} two {i = 0} {j = level} (omega arith) in
    let one : 2 ^ 0 ≡ 1 = omega arith in
    (omega (arith, some, one), up)

pub threshold-small : (plan : PlanData) (level : ℕ) → IsKept plan → BoundsFinds plan → level < levels_of plan
    → (1 ≤ threshold plan level) × (threshold plan level ≤ 2 ^ 30)
threshold-small plan level kept bounds low =
    let both = threshold-between level (omega (arith, low, kept.few)) in
    (omega (arith, both.0, bounds.thresholds level low), omega (arith, both.1, bounds.thresholds level low))

-- and so is the weight inside a reader
pub reader-light : (plan : PlanData) (level node place : ℕ) → IsKept plan → IsMatched plan → IsWithinReach plan
    → level < levels_of plan → node < nodes_of plan → place < length (readers plan level node)
    → inside plan level (slice_index (readers plan level node) place) node ≤ 2 ^ 35
reader-light plan level node place kept matched reached low high here =
    let held = reader-held plan level node place matched low high here in
    way-light plan level (slice_index (readers plan level node) place) node kept reached low held.1 held.0
