-- A plan that bounds its finds tracks its subscribers.
use Rattle.std.proofs.Common.{◌≡◌, ◌⊎◌, inl, inr, ℕ, zero, suc, ◌+◌, ◌*◌, ◌<◌, ◌≤◌, ◌^◌, true, false, List, sym, ap, ◌∙◌, arith}
use Rattle.std.proofs.Math.Nat.{mul-le-mul_right}
use Rattle.std.proofs.lemmas.Bool.{lt-ltb, cases_lt}
use Rattle.node_set.specs.Ascending.{has}
use Rattle.node_set.specs.SetLaws.{has-passing, passing_over}
use Rattle.directory.specs.Histories.{History}
use Rattle.directory.specs.Finds.{FindCall}
use Rattle.directory.specs.declared.answers.Found.{Found}
use Rattle.region_plan.specs.Matched.{BoundsFinds}
use Rattle.region_plan.specs.Measures.{degree_of}
use Rattle.region_plan.specs.Plan.{cluster_in, clusters_of, distance, home, inside, level_at, levels_of, members_of, nodes_of, PlanData, readers, top_of}
use Rattle.region_plan.specs.Regions.{clusters_with, threshold_of}
use Rattle.region_plan.specs.Settings.{setting_of}
use Rattle.stretch_laws.specs.Tracking.{IsNear, IsTracking, QuietFindsAreNear, stretch}
use Rattle.stretch_laws.specs.Plans.{IsWithinBound, PlanFindsAreNear, PlansTrack}

power-some : (i : ℕ) → 1 ≤ 2 ^ i
power-some zero = omega arith
power-some (suc i) = let e : 2 ^ suc i ≡ 2 * 2 ^ i = omega arith in omega (arith, e, power-some i)

threshold-some : (i : ℕ) → 1 ≤ threshold_of i
threshold-some zero = omega arith
threshold-some (suc i) = power-some i

threshold-half : (i : ℕ) → 2 * threshold_of i ≤ 2 ^ i + 1
threshold-half zero = let e : 2 ^ 0 ≡ 1 = omega arith in omega (arith, e)
threshold-half (suc i) = let e : 2 ^ suc i ≡ 2 * 2 ^ i = omega arith in omega (arith, e)

module _ (plan : PlanData) (starts : List ℕ) (bounds : BoundsFinds plan) where
  its-distance : (u v : ℕ) → u < nodes_of plan → v < nodes_of plan
      → (setting_of plan starts).distance u v ≡ distance plan u v
  its-distance u v h g = grind (arith, lt-ltb)

  level-below : (i : ℕ) → i ≤ top_of plan → i < levels_of plan
  level-below i h = omega (arith, h, bounds.matched.some)

  -- a cluster that a node reads contains it
  read-means : (i c v : ℕ) → i ≤ top_of plan → v < nodes_of plan → has c (readers plan i v) ≡ true
      → (c < clusters_of plan i) × (has v (members_of plan i c) ≡ true)
  read-means i c v h g reads = at_place (cases_lt c (clusters_of plan i))
    where
      listed : has c (clusters_with (level_at plan i).clusters v) ≡ true
      listed = ap (has c) (sym (bounds.matched.read i v (level-below i h) g)) ∙ reads

      at_place : (c < clusters_of plan i) ⊎ (clusters_of plan i ≤ c)
          → (c < clusters_of plan i) × (has v (members_of plan i c) ≡ true)
      at_place (inl low) = (
        low,
        sym (has-passing (λ x. has v (cluster_in (level_at plan i).clusters x).members) c 0
            (clusters_of plan i) (omega arith) (omega (arith, low))) ∙ listed,
      )
      at_place (inr high) =
          let clash : false ≡ true = sym (passing_over (λ x. has v (cluster_in (level_at plan i).clusters x).members) c
          0
          (clusters_of plan i) (omega (arith, high))) ∙ listed in cc

  pub plan-tracks : IsTracking (setting_of plan starts) plan.reach (degree_of plan)
  plan-tracks = record {
    metric = record {
      none = λ u h. its-distance u u h h ∙ bounds.matched.metric.zero u h;
      both_ways = λ u v h g. its-distance u v h g ∙ (bounds.matched.metric.turned u v h g ∙ sym (its-distance v u g h));
      detour = λ u v w h g k. grind (arith, its-distance);
    };
    apart = λ u v h g other. omega (arith, its-distance u v h g, bounds.matched.metric.positive u v h g other);
    gathers = λ i h. omega (arith, bounds.thresholds i (level-below i h), threshold-some i);
    halves = λ i h. omega (arith, bounds.thresholds i (level-below i h), threshold-half i);
    read = λ i u v h g k near. grind (arith, level-below, its-distance);
    whole = λ u v h g. all-read u v h g;
    few = λ i v h g. bounds.read i v;
    led = λ i c v h g reads.
        let its = read-means i c v h g reads in
        grind (arith, level-below);
    far = λ i c v h g reads.
        grind (arith, read-means, level-below, its-distance);
    wide = λ i c v h g reads.
        grind (arith, read-means, level-below);
  }
    where
      all-read : (u v : ℕ) → u < nodes_of plan → v < nodes_of plan
          → has (home plan (top_of plan) u) (readers plan (top_of plan) v) ≡ true
      all-read u v h g =
          ap (has (home plan (top_of plan) u)) (bounds.matched.read (top_of plan) v
          (level-below (top_of plan) (omega arith)) g)
          ∙ (has-passing (λ x. has v (cluster_in (level_at plan (top_of plan)).clusters x).members)
          (home plan (top_of plan) u) 0 (clusters_of plan (top_of plan)) (omega arith)
          (omega (arith, bounds.matched.homes (top_of plan) u (level-below (top_of plan) (omega arith)) h))
          ∙ bounds.matched.whole v u g h)

pub plans-track : PlansTrack
plans-track plan starts bounds = plan-tracks plan starts bounds

-- a plan's own stretch is a little more
more-stretch : (m w d : ℕ) → stretch w m * d ≤ (16 * m * w + 12 * w + 12) * d
more-stretch m w d = mul-le-mul_right d (let h : stretch w m ≤ 16 * m * w + 12 * w + 12 = omega arith in h)

plan-within : (plan : PlanData) (starts : List ℕ) (call : FindCall) (found : Found) (history : History)
    → IsNear (setting_of plan starts) plan.reach (degree_of plan) call found history
    → IsWithinBound plan starts call found history
plan-within plan starts call found history is = grind (arith, more-stretch)

pub plan-near : QuietFindsAreNear → PlanFindsAreNear
plan-near near plan starts history actor call found tickets low bounds inside legal find quiet =
    let its = near (setting_of plan starts) plan.reach (degree_of plan) history actor call found tickets low
    (plan-tracks plan starts bounds) inside legal find quiet in grind (arith, plan-within)
