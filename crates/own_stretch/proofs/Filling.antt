-- How far the farthest node of each cluster is, one node after another.
use Rattle.std.proofs.Common.{◌≡◌, ◌≢◌, ℕ, suc, ◌+◌, ◌-◌, ◌<◌, max, List, length, set, refl, ap, sym, ◌∙◌, arith, inl, inr, subst, slice_index}
use Rattle.std.proofs.lemmas.Bool.{cases_eq, eq-eqb, ne_eqb}
use Rattle.std.proofs.lemmas.List.{get_or-set_other, get_or-set_same, length-set}
use Rattle.directory.specs.Settings.{Setting}
use Rattle.directory.specs.Writes.{numbers_from}
use Rattle.region_plan.specs.Plan.{clusters_of, nodes_of, PlanData}
use Rattle.busy_finds.specs.Levels.{farthest, farthest_of}
use Rattle.own_stretch.specs.Tables.{bare, reader_at}

-- with the nodes from one on, what there is so far is how far the farthest is
pub record IsFilled (plan : PlanData) (level first : ℕ) (far : List ℕ) : Type 0 where
  pub count : length far ≡ clusters_of plan level
  pub each : (cluster : ℕ) → cluster < clusters_of plan level
      → max (slice_index far cluster)
      (farthest_of (bare plan) level cluster (numbers_from first (nodes_of plan - first)))
      ≡ farthest (bare plan) (reader_at level cluster)

-- the first of some nodes, at its home and elsewhere
farthest-here : (setting : Setting) (level cluster first more : ℕ) → setting.home level first ≡ cluster
    → farthest_of setting level cluster (numbers_from first (suc more))
    ≡ max (setting.distance (setting.leader level cluster) first)
    (farthest_of setting level cluster (numbers_from (suc first) more))
farthest-here setting level cluster first more same = rw (eq-eqb (setting.home level first) cluster same) refl

farthest-elsewhere : (setting : Setting) (level cluster first more : ℕ) → setting.home level first ≢ cluster
    → farthest_of setting level cluster (numbers_from first (suc more))
    ≡ farthest_of setting level cluster (numbers_from (suc first) more)
farthest-elsewhere setting level cluster first more apart =
    rw (ne_eqb (setting.home level first) cluster apart) refl

module _ (plan : PlanData) (level first home : ℕ) (far : List ℕ) (low : first < nodes_of plan)
    (at : home ≡ (bare plan).home level first) (filled : IsFilled plan level first far) where
  -- the nodes from one on are that one, and those after
  left : (cluster : ℕ) → farthest_of (bare plan) level cluster (numbers_from first (nodes_of plan - first))
      ≡ farthest_of (bare plan) level cluster (numbers_from first (suc (nodes_of plan - (first + 1))))
  left cluster =
      ap (λ n. farthest_of (bare plan) level cluster (numbers_from first n))
      (let e : nodes_of plan - first ≡ suc (nodes_of plan - (first + 1)) = omega (arith, low) in e)

  after : (cluster : ℕ)
      → farthest_of (bare plan) level cluster (numbers_from (first + 1) (nodes_of plan - (first + 1)))
      ≡ farthest_of (bare plan) level cluster (numbers_from (suc first) (nodes_of plan - (first + 1)))
  after cluster =
      ap (λ n. farthest_of (bare plan) level cluster (numbers_from n (nodes_of plan - (first + 1))))
      (let e : first + 1 ≡ suc first = omega arith in e)

  -- at its own home, and at another cluster
  at-home : {away new : ℕ} → home < clusters_of plan level
      → away ≡ (bare plan).distance ((bare plan).leader level home) first
      → new ≡ max (slice_index far home) away
      → max (slice_index (set far home new) home)
      (farthest_of (bare plan) level home (numbers_from (first + 1) (nodes_of plan - (first + 1))))
      ≡ farthest (bare plan) (reader_at level home)
  at-home {away} {new} inside is greater =
      let there : slice_index (set far home new) home ≡ new =
      get_or-set_same {A = ℕ} far home new 0 (omega (arith, inside, filled.count)) in
      omega (
        arith,
        filled.each home inside,
        left home,
        farthest-here (bare plan) level home first (nodes_of plan - (first + 1)) (sym at),
        after home,
        greater,
        is,
        there,
      )

  elsewhere : (cluster new : ℕ) → cluster < clusters_of plan level → home ≢ cluster
      → max (slice_index (set far home new) cluster)
      (farthest_of (bare plan) level cluster (numbers_from (first + 1) (nodes_of plan - (first + 1))))
      ≡ farthest (bare plan) (reader_at level cluster)
  elsewhere cluster new few apart =
      let there : slice_index (set far home new) cluster ≡ slice_index far cluster =
      get_or-set_other {A = ℕ} far home cluster new 0 (λ e. apart (sym e)) in
      omega (
        arith,
        filled.each cluster few,
        left cluster,
        farthest-elsewhere (bare plan) level cluster first (nodes_of plan - (first + 1)) (λ e. apart (at ∙ e)),
        after cluster,
        there,
      )

  -- one node more is seen
  pub filled-more : {away new : ℕ} → home < clusters_of plan level
      → away ≡ (bare plan).distance ((bare plan).leader level home) first
      → new ≡ max (slice_index far home) away
      → IsFilled plan level (first + 1) (set far home new)
  filled-more {away} {new} inside is greater = record {
    count = length-set far home new ∙ filled.count;
    each = λ cluster few. elim (cases_eq home cluster) [
      | inl same ↦
          subst (λ c. max (slice_index (set far home new) c)
          (farthest_of (bare plan) level c (numbers_from (first + 1) (nodes_of plan - (first + 1))))
          ≡ farthest (bare plan) (reader_at level c)) same (at-home inside is greater)
      | inr apart ↦ elsewhere cluster new few apart
    ];
  }
