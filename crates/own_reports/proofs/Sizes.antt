-- How large the numbers of a valid input's directory are: its distances, the weights inside its
-- clusters, its levels, and how many looks a find makes.
use Rattle.std.proofs.Common.{◌≡◌, ℕ, zero, suc, ◌*◌, ◌^◌, ◌<◌, ◌≤◌, ◌&&◌, Bool, true, false, cond, ltb, List, length, map, refl, arith, subst, length-append, inl, inr}
use Rattle.std.specs.Prelude.{flat_map}
use Rattle.std.proofs.Math.Nat.{pow-le-pow_left, pow-le-pow_right, pow-succ'}
use Rattle.std.proofs.lemmas.Bool.{and_parts, cases_lt}
use Rattle.std.proofs.lemmas.Bool.Decides.{nat_tests}
use Rattle.std.proofs.lemmas.List.{length-map}
use Rattle.std.proofs.lemmas.Nat.{mul-le}
use Rattle.distances.specs.Table.{IsMetric, dist}
use Rattle.node_set.specs.Ascending.{has}
use Rattle.directory.specs.Settings.{Setting, levels}
use Rattle.directory.specs.Finds.{Reader, most_looks}
use Rattle.directory.specs.Writes.{numbers_from}
use Rattle.net_reader.specs.Input.{Contents}
use Rattle.net_reader.specs.Valid.{IsValid}
use Rattle.region_plan.specs.Matched.{BoundsFinds, HasFewReaders, PlansBoundFinds, PlansHaveFewReaders}
use Rattle.region_plan.specs.Meanings.{IsPlanOf, PlansMean}
use Rattle.region_plan.specs.Measures.{degree_of}
use Rattle.region_plan.specs.Plan.{PlanData, nodes_of, top_of}
use Rattle.stretch_laws.specs.Plans.{PlansTrack}
use Rattle.stretch_laws.specs.Tracking.{IsTracking}
use Rattle.own_reports.proofs.Inputs.{plan-bounds, plan-means, setting_in}
use Rattle.report_check.specs.InputLaws.{network-valid}
use Rattle.report_check.specs.Inputs.{network_of, plan_for}

-- the numbers of a setting are small
pub record IsSmall (setting : Setting) : Type 0 where
  pub nodes : setting.nodes ≤ 1024
  pub top : setting.top < 32
  pub distance : (u v : ℕ) → setting.distance u v ≤ 2 ^ 30
  pub inside : (i c v : ℕ) → i ≤ setting.top → v < setting.nodes → has c (setting.readers i v) ≡ true
      → setting.inside i c v ≤ 2 ^ 35
  pub looks : (v : ℕ) → most_looks setting v ≤ 2 ^ 16

only-then : (b : Bool) (d m : ℕ) → (b ≡ true → d ≤ m) → cond b d 0 ≤ m
only-then true d m h = h refl
only-then false d m h = omega arith

both-below : (u v n : ℕ) → (ltb u n && ltb v n) ≡ true → (u < n) × (v < n)
both-below u v n e =
    let both = and_parts (ltb u n) (ltb v n) e in
    (grind (arith, nat_tests, both.0), grind (arith, nat_tests, both.1))

top-reaches : (top d : ℕ) → d ≤ 2 ^ 30 → ((i : ℕ) → i < top → 2 ^ i < d) → 2 ^ top ≤ 2 ^ 31
top-reaches zero d few least = omega arith
top-reaches (suc i) d few least =
    let below : 2 ^ i < d = least i (omega arith) in
    let twice : 2 ^ suc i ≡ 2 * 2 ^ i = pow-succ' 2 i in
    omega (arith, below, twice, few)

top-few : (top : ℕ) → 2 ^ top ≤ 2 ^ 31 → top < 32
top-few top reaches = elim (cases_lt top 32) [
  | inl low ↦ low
  | inr high ↦
      let grows : 2 ^ 32 ≤ 2 ^ top = pow-le-pow_right (omega arith) high in
      absurd (omega (arith, grows, reaches))
]

-- with few nodes few clusters overlap
degree-few : (k d n : ℕ) → 1 ≤ k → k ≤ 8 → n ≤ 1024 → d ^ k ≤ k ^ k * n → d ≤ 1024
degree-few k d n some few nodes most = elim (cases_lt 1024 d) [
  | inr low ↦ low
  | inl high ↦
      let grows : 1025 ^ k ≤ d ^ k = pow-le-pow_left (let h : 1025 ≤ d = omega (arith, high) in h) k in
      absurd (each k some few (omega (arith, grows, most)))
]
  where
    each : (k : ℕ) → 1 ≤ k → k ≤ 8 → 1025 ^ k ≤ k ^ k * n → ⊥
    each zero some few h = omega (arith, some)
    each (suc zero) some few h = omega (arith, h, nodes)
    each (suc (suc zero)) some few h = omega (arith, h, nodes)
    each (suc (suc (suc zero))) some few h = omega (arith, h, nodes)
    each (suc (suc (suc (suc zero)))) some few h = omega (arith, h, nodes)
    each (suc (suc (suc (suc (suc zero))))) some few h = omega (arith, h, nodes)
    each (suc (suc (suc (suc (suc (suc zero)))))) some few h = omega (arith, h, nodes)
    each (suc (suc (suc (suc (suc (suc (suc zero))))))) some few h = omega (arith, h, nodes)
    each (suc (suc (suc (suc (suc (suc (suc (suc zero)))))))) some few h = omega (arith, h, nodes)
    each (suc (suc (suc (suc (suc (suc (suc (suc (suc k))))))))) some few h = omega (arith, few)

-- a cluster of a level
abbrev pub reader_at : ℕ → ℕ → Reader
reader_at level cluster = record { level = level; cluster = cluster }

-- few readers of each level are few readers
readers-few : (setting : Setting) (node from count : ℕ) → ((i : ℕ) → length (setting.readers i node) ≤ 1024)
    → length (flat_map (λ (level : ℕ). map (λ cluster. reader_at level cluster)
    (setting.readers level node)) (numbers_from from count)) ≤ count * 1024
readers-few setting node from zero few = omega arith
readers-few setting node from (suc count) few =
    let now : List Reader = map (λ cluster. reader_at from cluster) (setting.readers from node) in
    omega (
      arith,
      few from,
      length-map (setting.readers from node) (λ cluster. reader_at from cluster),
      length-append now (flat_map (λ (level : ℕ). map (λ cluster. reader_at level cluster)
          (setting.readers level node)) (numbers_from (suc from) count)),
      readers-few setting node (suc from) count few,
    )

-- the directory of a valid input is small
pub small-in : PlansMean → PlansBoundFinds → PlansHaveFewReaders → PlansTrack → (contents : Contents) → IsValid contents
    → IsSmall (setting_in contents)
small-in means bounds sparse track contents valid =
    let plan : PlanData = plan_for contents in
    let is : IsPlanOf (network_of contents) contents.k plan = plan-means means contents valid in
    let bounding : BoundsFinds plan = plan-bounds bounds contents valid in
    let tracking : IsTracking (setting_in contents) plan.reach (degree_of plan) = track plan contents.homes bounding in
    let few_of : HasFewReaders plan = sparse (network_of contents) contents.k (network-valid valid)
    valid.k_some in
    let metric : IsMetric plan.distances = bounding.matched.metric in
    let nodes : nodes_of plan ≤ 1024 = omega (arith, metric.few) in
    let dist_few : (u v : ℕ) → u < nodes_of plan → v < nodes_of plan → dist plan.distances u v ≤ 2 ^ 30 =
    λ u v ul vl. omega (arith, metric.bounded u v ul vl, nodes) in
    let attained = is.top.greatest.attained in
    let diameter : is.top.diameter ≤ 2 ^ 30 =
    omega (arith, attained.far, dist_few attained.from attained.to attained.from_below attained.to_below) in
    let reaches : 2 ^ top_of plan ≤ 2 ^ 31 = top-reaches (top_of plan) is.top.diameter diameter is.top.least in
    let degree : degree_of plan ≤ 1024 =
    degree-few contents.k (degree_of plan) (nodes_of plan) valid.k_some valid.k_few nodes
    (subst (λ k. degree_of plan ^ k ≤ k ^ k * nodes_of plan) is.trade_off few_of.degree) in
    let top : top_of plan < 32 = top-few (top_of plan) reaches in record {
      nodes = nodes;
      top = top;
      distance = λ u v.
          only-then (ltb u (nodes_of plan) && ltb v (nodes_of plan)) (dist plan.distances u v) (2 ^ 30) (λ e.
          let both = both-below u v (nodes_of plan) e in dist_few u v both.0 both.1);
      inside = λ i c v low below read.
          let high : 2 ^ i ≤ 2 ^ top_of plan = pow-le-pow_right (omega arith) low in
          let reach : plan.reach ≤ 15 = omega (arith, is.reach, valid.k_few) in
          omega (
            arith,
            tracking.wide i c v low below read,
            mul-le plan.reach (2 ^ i) 15 (2 ^ 31) reach (omega (arith, high, reaches)),
          );
      looks = λ v.
          omega (
            arith,
            top,
            nodes,
            readers-few (setting_in contents) v 0 (levels (setting_in contents))
                (λ i. omega (arith, bounding.read i v, degree)),
          );
    }
