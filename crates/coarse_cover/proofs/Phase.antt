-- One phase: its clusters are disjoint, and the balls that they are homes of are many.
use Rattle.std.proofs.lemmas.Bool.Decides.{nat_tests}
use Rattle.std.proofs.lemmas.Bool.{false≢true, false_from_ne_true, not-true}
use Rattle.std.proofs.Common.{◌≡◌, ℕ, zero, suc, ◌+◌, ◌*◌, ◌^◌, ◌<◌, ◌≤◌, Bool, true, false, cond, not, ◌&&◌, List, [], ◌∷◌, length, filter, refl, arith}
use Rattle.std.specs.Prelude.{count_by, All}
use Rattle.std.proofs.lemmas.List.Elements.{All-nil, All-cons, All-head, All-tail}
use Rattle.std.proofs.lemmas.List.Sums.{sum_by-cons}
use Rattle.std.proofs.Math.Nat.{le_refl, le_trans, pow-le-pow_left, mul-le-mul_left}
use Rattle.node_set.specs.Ascending.{has, IsBelowAll, share}
use Rattle.node_set.specs.SetLaws.{share_from, share_gives}
use Rattle.whole_powers.specs.Bounds.{PowersAdd}
use Rattle.whole_powers.specs.PowerLaws.{zero_pow}
use Rattle.coarse_cover.specs.Coarsening.{is_enough, cluster_of, phase}
use Rattle.coarse_cover.specs.HalfMade.{IsReady}
use Rattle.node_set.specs.Balls.{union_of, touches, growth, least, GrownCluster, IsShaped, is_homed}
use Rattle.node_set.specs.GrowthLaws.{touching_below}
use Rattle.node_set.specs.HomeLaws.{homed_here, homed_later}
use Rattle.node_set.specs.FilterLaws.{filter_keeps, filter-has, filter_twice, filter_halves, filter_fewer, filter_more, some_length, ascending-filter}
use Rattle.node_set.specs.BallLaws.{HoldCentres, union_from, touches_own, growth_waits, growth_leader, growth_picked, least_passes}
use Rattle.coarse_cover.proofs.Growth.{growths_few, enough_means}

-- ---- one cluster

-- those that do not touch the cluster
abbrev pub apart : List (List ℕ) → List ℕ → List ℕ → List ℕ
apart balls nodes waiting = filter (λ v. not (touches balls nodes v)) waiting

-- what a cluster is to the waiting balls among which it is growth
pub record IsCluster (balls : List (List ℕ)) (k r : ℕ) (waiting : List ℕ) (c : GrownCluster) : Type 0 where
  pub leads : has c.first c.homed ≡ true
  pub waits : (v : ℕ) → has v c.homed ≡ true → has v waiting ≡ true
  pub joined : c.members ≡ union_of balls c.homed
  pub touching : (v : ℕ) → has v c.homed ≡ true → touches balls c.members v ≡ true
  pub few : c.growths < k
  pub enough : length (filter (touches balls c.members) waiting) ^ k ≤ r * length c.homed ^ k
  pub picked : c.homed ≡ filter (λ v. has v c.homed) waiting
  pub shape : c.homed ≡ growth balls waiting c.first c.growths

pub is_cluster : (balls : List (List ℕ)) (k r a : ℕ) (rest : List ℕ) → 0 < k → length (a ∷ rest) ≤ r → IsBelowAll a rest
    → HoldCentres balls (a ∷ rest) → IsCluster balls k r (a ∷ rest) (cluster_of balls k r (a ∷ rest) a)
unfolding cluster_of growth
is_cluster balls k r a rest pos fits below hold =
    let test = is_enough balls k r (a ∷ rest) a in
    let j = least test k in
    let few = growths_few balls k r a rest pos fits in
    record {
      leads = growth_leader balls a rest hold j;
      waits = growth_waits balls a rest j;
      joined = refl;
      touching = λ v h.
          touches_own balls v (growth balls (a ∷ rest) a j) h (hold v (growth_waits balls a rest j v h));
      few = few;
      enough = enough_means balls k r a rest j (least_passes test k few);
      picked = growth_picked balls a rest below j;
      shape = refl;
    }

-- ---- a phase, without its fuel

-- the clusters are those of a phase, one after another
abbrev pub IsPhase : List (List ℕ) → ℕ → ℕ → List ℕ → List GrownCluster → Type 0
IsPhase balls k r waiting [] = waiting ≡ []
IsPhase balls k r waiting (c ∷ cs) = IsCluster balls k r waiting c
    × IsPhase balls k r (apart balls c.members waiting) cs

pub ready_filter : {balls : List (List ℕ)} {k r : ℕ} {waiting : List ℕ} (p : ℕ → Bool) → IsReady balls k r waiting
    → IsReady balls k r (filter p waiting)
ready_filter {waiting} p ready = record {
  some = ready.some;
  fits = omega (arith, filter_fewer p waiting, ready.fits);
  ascending = ascending-filter p waiting ready.ascending;
  centred = λ v h. ready.centred v (filter_keeps p v waiting h).0;
}

-- and with as many as are left
pub ready_shrunk : {balls : List (List ℕ)} {k : ℕ} {left : List ℕ} (p : ℕ → Bool) → IsReady balls k (length left) left
    → IsReady balls k (length (filter p left)) (filter p left)
ready_shrunk {left = left} p ready =
    let all = ready_filter p ready in
    record {
      some = all.some;
      fits = le_refl (length (filter p left));
      ascending = all.ascending;
      centred = all.centred;
    }

pub cluster_ready : {balls : List (List ℕ)} {k r a : ℕ} {rest : List ℕ} → IsReady balls k r (a ∷ rest)
    → IsCluster balls k r (a ∷ rest) (cluster_of balls k r (a ∷ rest) a)
cluster_ready {balls} {k} {r} {a} {rest} ready = search is_cluster

-- a cluster takes its leader at least
pub apart_fewer : {balls : List (List ℕ)} {k r : ℕ} {waiting : List ℕ} {c : GrownCluster}
    → IsCluster balls k r waiting c → length (apart balls c.members waiting) < length waiting
apart_fewer {balls} {waiting} {c} is =
    let taken : has c.first (filter (touches balls c.members) waiting)
    ≡ true = grind (arith, filter-has) in
    grind (arith, some_length, filter_halves)

pub phase_is : {balls : List (List ℕ)} {k r : ℕ} (more : ℕ) (waiting : List ℕ) → IsReady balls k r waiting
    → length waiting ≤ more → IsPhase balls k r waiting (phase balls k r more waiting)
unfolding phase
phase_is zero [] ready enough = refl
phase_is zero (a ∷ rest) ready enough = absurd (omega arith)
phase_is (suc more) [] ready enough = refl
phase_is {balls} {k} {r} (suc more) (a ∷ rest) ready enough =
    let c = cluster_of balls k r (a ∷ rest) a in
    let is = cluster_ready ready in (
      is,
      phase_is more (apart balls c.members (a ∷ rest)) (ready_filter (λ v. not (touches balls c.members v)) ready)
          (omega (arith, apart_fewer is)),
    )

module _ (balls : List (List ℕ)) (k r : ℕ) where
  -- the balls of a cluster and those of the later ones are counted apart
  split_homed : (waiting : List ℕ) (c : GrownCluster) (cs : List GrownCluster) → IsCluster balls k r waiting c →
      length c.homed + length (filter (is_homed cs) (apart balls c.members waiting)) ≤ length
      (filter (is_homed (c ∷ cs)) waiting)
  split_homed waiting c cs is =
      let touched = touches balls c.members in
      let own : length c.homed ≤ length (filter (λ v. is_homed (c ∷ cs) v && touched v) waiting) =
      grind (arith, filter_more, homed_here) in
      let others : length (filter (λ v. not (touched v) && is_homed cs v) waiting)
      ≤ length (filter (λ v. is_homed (c ∷ cs) v && not (touched v)) waiting) =
      grind (arith, filter_more, homed_later) in
      grind (
        arith,
        nat_tests,
        filter_halves touched (filter (is_homed (c ∷ cs)) waiting),
        filter_twice touched (is_homed (c ∷ cs)) waiting,
        filter_twice (λ v. not (touched v)) (is_homed (c ∷ cs)) waiting,
        filter_twice (is_homed cs) (λ v. not (touched v)) waiting,
      )

  pub phase_size : PowersAdd → (waiting : List ℕ) (cs : List GrownCluster) → 0 < k → IsPhase balls k r waiting cs
      → length waiting ^ k ≤ r * length (filter (is_homed cs) waiting) ^ k
  phase_size adds waiting [] pos is = rw is (omega (arith, zero_pow k pos))
  phase_size adds waiting (c ∷ cs) pos is =
      let touching = filter (touches balls c.members) waiting in
      let rest = apart balls c.members waiting in
      let sums = adds k r (length touching) (length rest) (length c.homed) (length (filter (is_homed cs) rest)) pos
      is.0.enough (phase_size adds rest cs pos is.1) in
      grind (arith, le_trans, filter_halves, mul-le-mul_left, pow-le-pow_left, split_homed)

  pub phase_count : (waiting : List ℕ) (cs : List GrownCluster) → IsPhase balls k r waiting cs
      → length cs ≤ length (filter (is_homed cs) waiting)
  phase_count waiting [] is = omega arith
  phase_count waiting (c ∷ cs) is =
      omega (
        arith,
        split_homed waiting c cs is.0,
        phase_count (apart balls c.members waiting) cs is.1,
        some_length c.first c.homed is.0.leads,
      )

  -- ---- disjoint clusters

  -- no later cluster has a node of a set that no waiting ball touches
  cluster_misses : (nodes waiting : List ℕ) (c : GrownCluster) (x : ℕ) → IsCluster balls k r waiting c
      → ((v : ℕ) → has v waiting ≡ true → touches balls nodes v ≡ false) → has x nodes ≡ true → has x c.members ≡ false
  cluster_misses nodes waiting c x is none here =
      grind (arith, false_from_ne_true, union_from, false≢true, share_from)

  pub later_apart : (nodes waiting : List ℕ) (cs : List GrownCluster) → IsPhase balls k r waiting cs →
      ((v : ℕ) → has v waiting ≡ true → touches balls nodes v ≡ false)
      → All (λ (d : GrownCluster). share nodes d.members ≡ false) cs
  later_apart nodes waiting [] is none = All-nil (λ (d : GrownCluster). share nodes d.members ≡ false)
  later_apart nodes waiting (c ∷ cs) is none =
      All-cons (λ (d : GrownCluster). share nodes d.members ≡ false) c cs
      (grind (arith, false_from_ne_true, share_gives, false≢true, cluster_misses))
      (later_apart nodes (apart balls c.members waiting) cs is.1
      (λ v h. none v (filter_keeps (λ w. not (touches balls c.members w)) v waiting h).0))

  -- the later clusters of a phase share no node with an earlier one
  pub phase_apart : (waiting : List ℕ) (c : GrownCluster) (cs : List GrownCluster) → IsPhase balls k r waiting (c ∷ cs)
      → All (λ (d : GrownCluster). share c.members d.members ≡ false) cs
  phase_apart waiting c cs is =
      grind (arith, later_apart, not-true, filter_keeps)

  none_has : (nodes : List ℕ) (x : ℕ) (cs : List GrownCluster) → has x nodes ≡ true
      → All (λ (d : GrownCluster). share nodes d.members ≡ false) cs → count_by (λ c. has x c.members) cs ≡ 0
  none_has nodes x [] here all = refl
  none_has nodes x (d ∷ ds) here all = grind (
    arith,
    sum_by-cons (λ (c : GrownCluster). cond (has x c.members) 1 0) d ds,
    All-head (λ (d : GrownCluster). share nodes d.members ≡ false) d ds all,
    share_from x nodes d.members here,
    none_has nodes x ds here (All-tail (λ (d : GrownCluster). share nodes d.members ≡ false) d ds all),
  )

  -- at most one cluster of a phase has the node x
  pub phase_once : (waiting : List ℕ) (cs : List GrownCluster) (x : ℕ) → IsPhase balls k r waiting cs
      → count_by (λ c. has x c.members) cs ≤ 1
  phase_once waiting [] x is = omega arith
  phase_once waiting (c ∷ cs) x is =
      let none = λ (e : has x c.members ≡ true). none_has c.members x cs e (phase_apart waiting c cs is) in
      grind (
        arith,
        sum_by-cons (λ (d : GrownCluster). cond (has x d.members) 1 0) c cs,
        none,
        phase_once (apart balls c.members waiting) cs x is.1,
      )

  -- ---- each cluster is the union of the balls that it is the home of

  pub phase_joined : (waiting : List ℕ) (cs : List GrownCluster) → IsPhase balls k r waiting cs
      → All (IsShaped balls k) cs
  phase_joined waiting [] is = All-nil (IsShaped balls k)
  phase_joined waiting (c ∷ cs) is =
      All-cons (IsShaped balls k) c cs (
        is.0.few,
        is.0.joined,
        grind (arith, touching_below),
        (waiting, is.0.waits c.first is.0.leads, is.0.shape),
      )
      (phase_joined (apart balls c.members waiting) cs is.1)
