-- Laws of the readers of a node: clusters that contain it, few at each level and at least one, with
-- light weights inside.
-- Key laws: `reader-held` (a reader is a cluster that contains the node), `readers-few`,
-- `readers-some`, `way-light`.
use Rattle.std.proofs.Common.{◌≡◌, ℕ, zero, suc, ◌+◌, ◌*◌, ◌^◌, ◌<◌, ◌≤◌, Bool, true, false, cond, List, [], ◌∷◌, length, refl, sym, ap, ◌∙◌, subst, arith}
use Rattle.std.proofs.Math.Nat.{mul-le-mul, pow-le-pow_right}
use Rattle.std.specs.Prelude.{slice_index}
use Rattle.node_set.specs.Ascending.{has, sift}
use Rattle.node_set.specs.SetLaws.{has-passing, length-passing-le}
use Rattle.region_plan.specs.Kept.{IsKept, IsSized}
use Rattle.region_plan.specs.Matched.{IsMatched, IsWithinReach}
use Rattle.region_plan.specs.Plan.{PlanData, cluster_in, clusters_of, home, inside, level_at, levels_of, members_of, no_level, nodes_of, readers}
use Rattle.region_plan.specs.Regions.{clusters_with}

-- a number that passes a test
passing-at : (test : ℕ → Bool) (x k i : ℕ) → i < length (sift test x k)
    → (test (slice_index (sift test x k) i) ≡ true) × (slice_index (sift test x k) i < x + k)
passing-at test x zero i h = absurd (omega (arith, h))
passing-at test x (suc k) i h = at_test (passing-at test (suc x) k) (test x) refl i h
  where
    at_test : ((j : ℕ) → j < length (sift test (suc x) k)
        → (test (slice_index (sift test (suc x) k) j) ≡ true)
        × (slice_index (sift test (suc x) k) j < suc x + k))
        → (b : Bool) → test x ≡ b → (j : ℕ)
        → j < length (cond b (x ∷ sift test (suc x) k) (sift test (suc x) k))
        → (test (slice_index (cond b (x ∷ sift test (suc x) k) (sift test (suc x) k)) j) ≡ true)
        × (slice_index (cond b (x ∷ sift test (suc x) k) (sift test (suc x) k)) j < x + suc k)
    at_test later true same zero l = (same, omega arith)
    at_test later true same (suc j) l =
        let deep = later j (omega (arith, l)) in (deep.0, omega (arith, deep.1))
    at_test later false same j l = let deep = later j l in (deep.0, omega (arith, deep.1))

-- a reader of a node is a cluster that contains it
pub reader-held : (plan : PlanData) (level node index : ℕ) → IsMatched plan → level < levels_of plan
    → node < nodes_of plan → index < length (readers plan level node)
    → (has node (members_of plan level (slice_index (readers plan level node) index)) ≡ true)
    × (slice_index (readers plan level node) index < clusters_of plan level)
reader-held plan level node index matched h l inside =
    let same : readers plan level node ≡ clusters_with (level_at plan level).clusters node =
    matched.read level node h l in
    let here : index < length (clusters_with (level_at plan level).clusters node) =
    subst (λ rs. index < length rs) same inside in
    let both = passing-at (λ c. has node (cluster_in (level_at plan level).clusters c).members) 0
    (length (level_at plan level).clusters) index here in (
      ap (λ rs. has node (members_of plan level (slice_index rs index))) same ∙ both.0,
      subst (λ rs. slice_index rs index < clusters_of plan level) (sym same)
          (omega (arith, both.1)),
    )

-- there are few readers
pub readers-few : (plan : PlanData) (level node : ℕ) → IsMatched plan → IsKept plan
    → level < levels_of plan → node < nodes_of plan → length (readers plan level node) ≤ 1024
readers-few plan level node matched kept h l =
    let sized : IsSized (nodes_of plan) (level_at plan level) = kept.levels level no_level h in
    subst (λ rs. length rs ≤ 1024) (sym (matched.read level node h l))
    (omega (
      arith,
      length-passing-le (λ c. has node (cluster_in (level_at plan level).clusters c).members) 0
          (length (level_at plan level).clusters),
      sized.clusters,
      kept.metric.few,
    ))

has-some : (x : ℕ) (xs : List ℕ) → has x xs ≡ true → 1 ≤ length xs
has-some x [] held = cc
has-some x (y ∷ ys) held = omega arith

-- and there is one at each level: the home of the node
pub readers-some : (plan : PlanData) (level node : ℕ) → IsMatched plan → level < levels_of plan
    → node < nodes_of plan → 1 ≤ length (readers plan level node)
readers-some plan level node matched h l =
    let home_read : has (home plan level node) (readers plan level node) ≡ true =
    rw (
      matched.read level node h l,
      has-passing (λ c. has node (cluster_in (level_at plan level).clusters c).members)
          (home plan level node) 0 (clusters_of plan level) (omega arith)
          (omega (arith, matched.homes level node h l)),
    )
    (matched.held level node h l) in
    has-some (home plan level node) (readers plan level node) home_read

-- weights inside clusters are light
pub way-light : (plan : PlanData) (i c v : ℕ) → IsKept plan → IsWithinReach plan
    → i < levels_of plan → c < clusters_of plan i → has v (members_of plan i c) ≡ true
    → inside plan i c v ≤ 2 ^ 35
way-light plan i c v kept reached h l member =
    let sized : IsSized (nodes_of plan) (level_at plan i) = kept.levels i no_level h in
    let two : 0 < 2 = omega arith in
    let power : 2 ^ (level_at plan i).exponent ≤ 2 ^ 30 = pow-le-pow_right {n = 2} two {i =
    (level_at plan i).exponent} {j = 30} sized.exponent in
    let product : plan.reach * 2 ^ (level_at plan i).exponent ≤ 17 * 2 ^ 30 =
    mul-le-mul kept.near power in
    omega (arith, reached i c v h l member, product)
