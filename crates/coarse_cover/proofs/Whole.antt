-- All phases: how many they are, that each ball finds a home, and how many clusters a node is in.
use Rattle.std.proofs.Common.{◌≡◌, ℕ, zero, suc, ◌+◌, ◌-◌, ◌*◌, ◌^◌, ◌<◌, ◌≤◌, true, cond, not, List, [], ◌∷◌, ◌++◌, length, length-append, filter, refl, ap, arith}
use Rattle.std.specs.Prelude.{count_by, All}
use Rattle.std.proofs.Math.Nat.{le_refl}
use Rattle.std.proofs.lemmas.List.Elements.{All-nil, All-append}
use Rattle.std.proofs.lemmas.List.Sums.{sum_by-append}
use Rattle.std.proofs.lemmas.Bool.{false≢true}
use Rattle.node_set.specs.Ascending.{has}
use Rattle.whole_powers.specs.Bounds.{PowersAdd, OnePhase}
use Rattle.whole_powers.specs.PowerLaws.{zero_pow}
use Rattle.coarse_cover.specs.Coarsening.{phase, without_home, phases, all_clusters}
use Rattle.coarse_cover.specs.HalfMade.{IsReady}
use Rattle.node_set.specs.Balls.{GrownCluster, IsShaped, is_homed}
use Rattle.node_set.specs.FilterLaws.{filter-has, filter_halves, filter_fewer}
use Rattle.coarse_cover.proofs.Phase.{IsPhase, ready_shrunk, phase_is, phase_size, phase_count, phase_once, phase_joined}

-- the lists are those of the phases of the balls that are left
abbrev pub ArePhases : List (List ℕ) → ℕ → List ℕ → List (List GrownCluster) → Type 0
ArePhases balls k left [] = left ≡ []
ArePhases balls k left (cs ∷ later) = (0 < length cs) × IsPhase balls k (length left) left cs
    × ArePhases balls k (without_home cs left) later

-- a phase leaves fewer balls
pub phase_fewer : (balls : List (List ℕ)) (k r : ℕ) (left : List ℕ) (cs : List GrownCluster) → IsPhase balls k r left cs
    → length (without_home cs left) + length cs ≤ length left
phase_fewer balls k r left cs is = omega (arith, phase_count balls k r left cs is, filter_halves (is_homed cs) left)

pub some_clusters : (balls : List (List ℕ)) (k r v : ℕ) (vs : List ℕ) (cs : List GrownCluster)
    → IsPhase balls k r (v ∷ vs) cs → 0 < length cs
some_clusters balls k r v vs [] is = absurd (omega (arith, ap length is))
some_clusters balls k r v vs (c ∷ cs) is = omega arith

-- the first phase of the balls v ∷ vs
unfoldable pub first_phase : (balls : List (List ℕ)) (k v : ℕ) (vs : List ℕ) → List GrownCluster
first_phase balls k v vs = phase balls k (length (v ∷ vs)) (length (v ∷ vs)) (v ∷ vs)

pub first_phase_is : {balls : List (List ℕ)} {k v : ℕ} {vs : List ℕ} → IsReady balls k (length (v ∷ vs)) (v ∷ vs)
    → (0 < length (first_phase balls k v vs))
    × IsPhase balls k (length (v ∷ vs)) (v ∷ vs) (first_phase balls k v vs)
    × (length (without_home (first_phase balls k v vs) (v ∷ vs)) < length (v ∷ vs))
unfolding first_phase
first_phase_is {balls} {k} {v} {vs} ready =
    let left = v ∷ vs in
    let cs = phase balls k (length left) (length left) left in
    let is = phase_is (length left) left ready (le_refl (length left)) in
    let some = some_clusters balls k (length left) v vs cs is in
    (some, is, omega (arith, some, phase_fewer balls k (length left) left cs is))

pub phases_are : {balls : List (List ℕ)} {k : ℕ} (more : ℕ) (left : List ℕ) → IsReady balls k (length left) left
    → length left ≤ more → ArePhases balls k left (phases balls k more left)
unfolding phases first_phase
phases_are zero [] ready enough = refl
phases_are zero (v ∷ vs) ready enough = absurd (omega arith)
phases_are (suc more) [] ready enough = refl
phases_are {balls} {k} (suc more) (v ∷ vs) ready enough =
    let first = first_phase_is ready in (
      first.0,
      first.1,
      phases_are more (without_home (first_phase balls k v vs) (v ∷ vs))
          (ready_shrunk (λ w. not (is_homed (first_phase balls k v vs) w)) ready) (omega (arith, first.2)),
    )

module _ (balls : List (List ℕ)) (k : ℕ) where
  pub phases_few : PowersAdd → OnePhase → (left : List ℕ) (all : List (List GrownCluster)) → 0 < k
      → ArePhases balls k left all → length all ^ k ≤ k ^ k * length left
  phases_few adds one_phase left [] pos are = omega (arith, zero_pow k pos)
  phases_few adds one_phase left (cs ∷ later) pos are =
      let rest : length (without_home cs left)
      ≡ length left - length (filter (is_homed cs) left) = omega (arith, filter_halves (is_homed cs) left) in
      one_phase k (length left) (length (filter (is_homed cs) left)) (length later) pos
      (omega (arith, are.0, phase_fewer balls k (length left) left cs are.1)) (filter_fewer (is_homed cs) left)
      (phase_size balls k (length left) adds left cs pos are.1) (rw rest at
      (phases_few adds one_phase (without_home cs left) later pos are.2))

  pub phases_within : (left : List ℕ) (all : List (List GrownCluster)) → ArePhases balls k left all
      → length all ≤ length left
  phases_within left [] are = omega arith
  phases_within left (cs ∷ later) are =
      omega (
        arith,
        are.0,
        phase_fewer balls k (length left) left cs are.1,
        phases_within (without_home cs left) later are.2,
      )

  pub clusters_within : (left : List ℕ) (all : List (List GrownCluster)) → ArePhases balls k left all
      → length (all_clusters all) ≤ length left
  unfolding all_clusters
  clusters_within left [] are = omega arith
  clusters_within left (cs ∷ later) are =
      omega (
        arith,
        length-append cs (all_clusters later),
        phase_fewer balls k (length left) left cs are.1,
        clusters_within (without_home cs left) later are.2,
      )

  -- ---- each ball finds a home

  homed_front : (cs ds : List GrownCluster) (v : ℕ) → is_homed cs v ≡ true → is_homed (cs ++ ds) v ≡ true
  unfolding is_homed
  homed_front [] ds v h = cc
  homed_front (c ∷ cs) ds v h = grind (arith, homed_front cs ds v)

  homed_end : (cs ds : List GrownCluster) (v : ℕ) → is_homed ds v ≡ true → is_homed (cs ++ ds) v ≡ true
  unfolding is_homed
  homed_end [] ds v h = h
  homed_end (c ∷ cs) ds v h = grind (arith, homed_end cs ds v h)

  pub all_homed : (left : List ℕ) (all : List (List GrownCluster)) → ArePhases balls k left all → (v : ℕ) → has v left
      ≡ true → is_homed (all_clusters all) v ≡ true
  unfolding all_clusters
  all_homed left [] are v h = absurd (false≢true (rw are at h))
  all_homed left (cs ∷ later) are v h = grind (
    arith,
    homed_front cs (all_clusters later) v,
    homed_end cs (all_clusters later) v,
    all_homed (without_home cs left) later are.2 v,
    filter-has (λ w. not (is_homed cs w)) v left h,
  )

  -- ---- how many clusters have a node

  pub few_have : (left : List ℕ) (all : List (List GrownCluster)) (x : ℕ) → ArePhases balls k left all
      → count_by (λ c. has x c.members) (all_clusters all) ≤ length all
  unfolding all_clusters
  few_have left [] x are = omega arith
  few_have left (cs ∷ later) x are =
      omega (
        arith,
        sum_by-append (λ (c : GrownCluster). cond (has x c.members) 1 0) cs (all_clusters later),
        phase_once balls k (length left) left cs x are.1,
        few_have (without_home cs left) later x are.2,
      )

  pub all_joined : (left : List ℕ) (all : List (List GrownCluster)) → ArePhases balls k left all
      → All (IsShaped balls k) (all_clusters all)
  unfolding all_clusters
  all_joined left [] are = All-nil (IsShaped balls k)
  all_joined left (cs ∷ later) are =
      All-append (IsShaped balls k) cs (all_clusters later) (phase_joined balls k (length left) left cs are.1)
      (all_joined (without_home cs left) later are.2)
