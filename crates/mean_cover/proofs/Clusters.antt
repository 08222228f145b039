-- The clusters of a mean cover: their shape, that each ball finds a home, and the sum of their sizes.
use Rattle.std.proofs.Common.{◌≡◌, inl, inr, ℕ, zero, suc, ◌+◌, ◌*◌, ◌^◌, ◌<◌, ◌≤◌, Bool, true, false, not, List, [], ◌∷◌, length, filter, refl, sym, ◌∙◌, ap, arith, add-one, ◌&&◌}
use Rattle.std.specs.Prelude.{All}
use Rattle.std.proofs.Math.Nat.{pow-succ'}
use Rattle.std.proofs.lemmas.Bool.{cases_Bool, false≢true, false_from_ne_true, not-true, not_from_false}
use Rattle.std.proofs.lemmas.List.Elements.{All-nil, All-cons}
use Rattle.std.proofs.lemmas.List.Sums.{sum_by-cons}
use Rattle.node_set.specs.Ascending.{has, IsAscending}
use Rattle.node_set.specs.Balls.{AreCentred, AreInside, GrownCluster, IsShaped, ball, centres, growth, is_homed, least, touches, union_of}
use Rattle.node_set.specs.BallLaws.{HoldCentres, ascending-union_of, below_centre, growth_leader, growth_next, growth_waits, has_centre, least_passes, length-centres, union_from}
use Rattle.node_set.specs.FilterLaws.{ascending-filter, filter_halves, filter-has, filter_keeps, has-filter, some_length}
use Rattle.node_set.specs.GrowthLaws.{touching_below}
use Rattle.node_set.specs.HomeLaws.{homed_here, homed_later}
use Rattle.node_set.specs.SetLaws.{ascending-passing, same_members, share_from}
use Rattle.whole_powers.specs.Bounds.{PowersAdd}
use Rattle.whole_powers.specs.PowerLaws.{zero_pow}
use Rattle.mean_cover.specs.Covering.{is_last, mean_cluster, mean_clusters, mean_covering, sum_of_sizes}
use Rattle.mean_cover.specs.HalfMade.{IsReady}
use Rattle.mean_cover.proofs.Growth.{growths_few, last_means}

-- ---- one cluster

-- what a cluster is to the waiting balls among which it grew; its core has the nodes before the last
-- growth
pub record IsMeanCluster (balls : List (List ℕ)) (k : ℕ) (waiting : List ℕ) (c : GrownCluster) : Type 0 where
  pub core : List ℕ
  pub leads : has c.first c.homed ≡ true
  pub waits : (v : ℕ) → has v c.homed ≡ true → has v waiting ≡ true
  pub joined : c.members ≡ union_of balls c.homed
  pub few : c.growths < suc k
  pub shape : c.homed ≡ growth balls waiting c.first c.growths
  pub grown : c.homed ≡ filter (touches balls core) waiting
  pub ascending : IsAscending core
  pub from : (x : ℕ) → has x core ≡ true → (v : ℕ) × (has v waiting ≡ true) × (has x (ball balls v) ≡ true)
  pub enough : length c.members ^ k ≤ length balls * length core ^ k

pub is_mean_cluster : (balls : List (List ℕ)) (k a : ℕ) (rest : List ℕ) → 0 < k → HoldCentres balls (a ∷ rest)
    → AreInside balls → IsMeanCluster balls k (a ∷ rest) (mean_cluster balls k (a ∷ rest) a)
unfolding mean_cluster
is_mean_cluster balls k a rest low hold inside =
    let few : least (is_last balls k (a ∷ rest) a) k < k = growths_few balls k a rest low hold inside in
    record {
      core = union_of balls (growth balls (a ∷ rest) a (least (is_last balls k (a ∷ rest) a) k));
      leads = growth_leader balls a rest hold (suc (least (is_last balls k (a ∷ rest) a) k));
      waits = growth_waits balls a rest (suc (least (is_last balls k (a ∷ rest) a) k));
      joined = refl;
      few = omega (arith, few);
      shape = refl;
      grown = growth_next balls (a ∷ rest) a (least (is_last balls k (a ∷ rest) a) k);
      ascending = ascending-union_of balls (growth balls (a ∷ rest) a (least (is_last balls k (a ∷ rest) a) k));
      from = λ x h.
          let v = union_from balls x (growth balls (a ∷ rest) a (least (is_last balls k (a ∷ rest) a) k)) h in
          (v.0, growth_waits balls a rest (least (is_last balls k (a ∷ rest) a) k) v.0 v.1, v.2);
      enough = last_means balls k a (a ∷ rest) (least (is_last balls k (a ∷ rest) a) k)
          (least_passes (is_last balls k (a ∷ rest) a) k few);
    }

-- those that the cluster isn't the home of
abbrev pub others : GrownCluster → List ℕ → List ℕ
others c waiting = filter (λ v. not (has v c.homed)) waiting

pub ready_others : (balls : List (List ℕ)) (waiting : List ℕ) (c : GrownCluster) → IsReady balls waiting
    → IsReady balls (others c waiting)
ready_others balls waiting c ready = record {
  ascending = ascending-filter (λ v. not (has v c.homed)) waiting ready.ascending;
  centred = λ v h. ready.centred v (filter_keeps (λ w. not (has w c.homed)) v waiting h).0;
}

-- a cluster is the home of its leader's ball at least
pub others_fewer : (balls : List (List ℕ)) (k : ℕ) (waiting : List ℕ) (c : GrownCluster)
    → IsMeanCluster balls k waiting c → length (others c waiting) < length waiting
others_fewer balls k waiting c is =
    omega (
      arith,
      some_length c.first (filter (λ v. has v c.homed) waiting)
          (filter-has (λ v. has v c.homed) c.first waiting (is.waits c.first is.leads) is.leads),
      filter_halves (λ v. has v c.homed) waiting,
    )

-- ---- the clusters, without their fuel

-- the clusters are those of a mean cover, one after another
abbrev pub AreMean : List (List ℕ) → ℕ → List ℕ → List GrownCluster → Type 0
AreMean balls k waiting [] = waiting ≡ []
AreMean balls k waiting (c ∷ cs) = IsMeanCluster balls k waiting c × AreMean balls k (others c waiting) cs

pub are_mean : (balls : List (List ℕ)) (k more : ℕ) (waiting : List ℕ) → 0 < k → AreInside balls
    → IsReady balls waiting → length waiting ≤ more → AreMean balls k waiting (mean_clusters balls k more waiting)
unfolding mean_clusters
are_mean balls k zero [] low inside ready enough = refl
are_mean balls k zero (a ∷ rest) low inside ready enough = absurd (omega arith)
are_mean balls k (suc more) [] low inside ready enough = refl
are_mean balls k (suc more) (a ∷ rest) low inside ready enough =
    let is : IsMeanCluster balls k (a ∷ rest) (mean_cluster balls k (a ∷ rest) a) =
    is_mean_cluster balls k a rest low ready.centred inside in (
      is,
      are_mean balls k more (others (mean_cluster balls k (a ∷ rest) a) (a ∷ rest)) low inside
          (ready_others balls (a ∷ rest) (mean_cluster balls k (a ∷ rest) a) ready)
          (omega (arith, others_fewer balls k (a ∷ rest) (mean_cluster balls k (a ∷ rest) a) is)),
    )

module _ (balls : List (List ℕ)) (k : ℕ) where
  pub clusters_within : (waiting : List ℕ) (cs : List GrownCluster) → AreMean balls k waiting cs
      → length cs ≤ length waiting
  clusters_within waiting [] are = omega arith
  clusters_within waiting (c ∷ cs) are =
      omega (arith, others_fewer balls k waiting c are.0, clusters_within (others c waiting) cs are.1)

  pub all_homed : (waiting : List ℕ) (cs : List GrownCluster) → AreMean balls k waiting cs → (v : ℕ)
      → has v waiting ≡ true → is_homed cs v ≡ true
  all_homed waiting [] are v h = absurd (false≢true (rw are at h))
  all_homed waiting (c ∷ cs) are v h = elim (cases_Bool (has v c.homed)) [
    | inl here ↦ homed_here c cs v here
    | inr gone ↦ homed_later c cs v (all_homed (others c waiting) cs are.1 v
        (filter-has (λ w. not (has w c.homed)) v waiting h (not_from_false (has v c.homed) gone)))
  ]

  pub all_shaped : (waiting : List ℕ) (cs : List GrownCluster) → AreMean balls k waiting cs
      → All (IsShaped balls (suc k)) cs
  all_shaped waiting [] are = All-nil (IsShaped balls (suc k))
  all_shaped waiting (c ∷ cs) are =
      let touched : touches balls are.0.core c.first ≡ true =
      (filter_keeps (touches balls are.0.core) c.first waiting (ap (has c.first) (sym are.0.grown) ∙ are.0.leads)).1
      in
      All-cons (IsShaped balls (suc k)) c cs (
        are.0.few,
        are.0.joined,
        touching_below balls are.0.core c.first touched,
        (waiting, are.0.waits c.first are.0.leads, are.0.shape),
      )
      (all_shaped (others c waiting) cs are.1)

  -- ---- the sum of the sizes

  -- a set within others, and what is left of these
  core_and_rest : (core free : List ℕ) → IsAscending core → IsAscending free
      → ((x : ℕ) → has x core ≡ true → has x free ≡ true)
      → length core + length (filter (λ x. not (has x core)) free) ≡ length free
  core_and_rest core free core_ascends free_ascends within =
      let same : filter (λ x. has x core) free ≡ core =
      same_members (filter (λ x. has x core) free) core (ascending-filter (λ x. has x core) free free_ascends)
      core_ascends (λ x. has-filter (λ y. has y core) x free ∙ at (has x free) (has x core) (within x))
      in
      omega (arith, ap length same, filter_halves (λ x. has x core) free)
    where
      at : (b c : Bool) → (c ≡ true → b ≡ true) → (b && c) ≡ c
      at true c follows = refl
      at false true follows = follows refl
      at false false follows = refl

  -- what waits on has no node of the core
  free_of_core : (waiting free : List ℕ) (c : GrownCluster) (is : IsMeanCluster balls k waiting c)
      → ((v x : ℕ) → has v waiting ≡ true → has x (ball balls v) ≡ true → has x free ≡ true)
      → (v x : ℕ) → has v (others c waiting) ≡ true → has x (ball balls v) ≡ true
      → has x (filter (λ y. not (has y is.core)) free) ≡ true
  free_of_core waiting free c is held v x waits inside =
      let w = filter_keeps (λ u. not (has u c.homed)) v waiting waits in
      grind (arith, filter-has, not_from_false, false_from_ne_true, false≢true, not-true, share_from)

  -- the cores of the clusters don't meet, so that their sizes add up to the free nodes at most
  pub sum_small : PowersAdd → (waiting free : List ℕ) (cs : List GrownCluster) → 0 < k → IsAscending free
      → ((v x : ℕ) → has v waiting ≡ true → has x (ball balls v) ≡ true → has x free ≡ true)
      → AreMean balls k waiting cs → sum_of_sizes cs ^ k ≤ length balls * length free ^ k
  sum_small adds waiting free [] low ascends held are = omega (arith, zero_pow k low)
  sum_small adds waiting free (c ∷ cs) low ascends held are =
      let rest : List ℕ = filter (λ y. not (has y are.0.core)) free in
      let parts : length are.0.core + length (filter (λ y. not (has y are.0.core)) free) ≡ length free =
      core_and_rest are.0.core free are.0.ascending ascends
      (λ x h. let v = are.0.from x h in held v.0 x v.1 v.2)
      in
      rw (sum_by-cons (λ (d : GrownCluster). length d.members) c cs) (rw parts at (adds k (length balls)
      (length c.members) (sum_of_sizes cs) (length are.0.core) (length (filter (λ y. not (has y are.0.core)) free)) low
      are.0.enough (sum_small adds (others c waiting) (filter (λ y. not (has y are.0.core)) free) cs low
      (ascending-filter (λ y. not (has y are.0.core)) free ascends) (free_of_core waiting free c are.0 held) are.1)))

-- ---- the clusters of all balls

pub ready_all : (balls : List (List ℕ)) → AreCentred balls → IsReady balls (centres (length balls))
ready_all balls centred = record {
  ascending = ascending-passing (λ v. true) 0 (length balls);
  centred = λ v h. centred v (below_centre (length balls) v h);
}

pub covering_mean : (balls : List (List ℕ)) (k : ℕ) → 0 < k → AreCentred balls → AreInside balls
    → AreMean balls k (centres (length balls)) (mean_covering balls k)
covering_mean balls k low centred inside =
    grind (arith, are_mean, ready_all, length-centres)

pub covering_small : PowersAdd → (balls : List (List ℕ)) (k : ℕ) → 0 < k → AreCentred balls → AreInside balls
    → sum_of_sizes (mean_covering balls k) ^ k ≤ length balls ^ (k + 1)
covering_small adds balls k low centred inside =
    let power : length balls ^ (k + 1) ≡ length balls * length balls ^ k =
    ap (λ (n : ℕ). length balls ^ n) (add-one k) ∙ pow-succ' (length balls) k in
    rw power (rw (length-centres (length balls)) at (sum_small balls k adds (centres (length balls))
    (centres (length balls)) (mean_covering balls k) low (ascending-passing (λ v. true) 0 (length balls))
    (λ v x h within. has_centre (length balls) x (inside v x within)) (covering_mean balls k low centred inside)))
