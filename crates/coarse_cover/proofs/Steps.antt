-- What is done, and what the definition gives for the rest.
use Rattle.std.proofs.Common.{◌≡◌, ℕ, zero, suc, ◌+◌, ◌<◌, ◌≤◌, Bool, true, false, cond, not, List, [], ◌∷◌, ◌++◌, length, length-append, append_assoc, filter, get_or, map, refl, sym, ◌∙◌, ap, arith}
use Rattle.std.proofs.Math.Nat.{le_refl}
use Rattle.std.proofs.lemmas.Bool.{cases_lt, false≢true}
use Rattle.node_set.specs.Ascending.{has}
use Rattle.node_set.specs.HomeLaws.{home_step}
use Rattle.node_set.specs.SetLaws.{has-passing, passing_over, ascending-passing}
use Rattle.coarse_cover.specs.Coarsening.{cluster_of, phase, phases, without_home, all_clusters, coarsening}
use Rattle.coarse_cover.specs.Covers.{cluster_list, as_cluster}
use Rattle.coarse_cover.specs.HalfMade.{phase_of, phases_of, IsReady, Agrees, IsInPhase, IsBetween, IsAdded}
use Rattle.coarse_cover.specs.declared.cover.Cluster.{Cluster}
use Rattle.coarse_cover.specs.declared.cover.Cover.{Cover}
use Rattle.node_set.specs.declared.workspace.Workspace.{Workspace}
use Rattle.coarse_cover.proofs.Phase.{IsCluster, apart, apart_fewer, cluster_ready, ready_filter, ready_shrunk}
use Rattle.node_set.specs.Balls.{touches, GrownCluster, is_homed, home_of, centres, AreCentred}
use Rattle.node_set.specs.FilterLaws.{filter_keeps, filter-has, filter_twice, filter_same, has-filter}
use Rattle.coarse_cover.proofs.Whole.{ArePhases, first_phase, first_phase_is, phases_are, clusters_within, phases_within}
use Rattle.node_set.specs.BallLaws.{length-centres}
use Rattle.coarse_cover.specs.CoverLaws.{length-cluster_list}

-- ---- enough fuel is enough

phase_none : (balls : List (List ℕ)) (k r more : ℕ) → phase balls k r more [] ≡ []
unfolding phase
phase_none balls k r zero = refl
phase_none balls k r (suc more) = refl

phase_enough : {balls : List (List ℕ)} {k r : ℕ} (m n : ℕ) (waiting : List ℕ) → IsReady balls k r waiting
    → length waiting ≤ m → length waiting ≤ n → phase balls k r m waiting ≡ phase balls k r n waiting
unfolding phase
phase_enough {balls} {k} {r} m n [] ready h g = phase_none balls k r m ∙ sym (phase_none balls k r n)
phase_enough zero n (a ∷ rest) ready h g = absurd (omega arith)
phase_enough (suc m) zero (a ∷ rest) ready h g = absurd (omega arith)
phase_enough {balls} {k} {r} (suc m) (suc n) (a ∷ rest) ready h g =
    let c = cluster_of balls k r (a ∷ rest) a in
    let fewer = apart_fewer (cluster_ready ready) in
    ap (λ (cs : List GrownCluster). c ∷ cs)
    (phase_enough m n (apart balls c.members (a ∷ rest)) (ready_filter (λ v. not (touches balls c.members v)) ready)
    (omega arith) (omega arith))

pub phase_of_none : (balls : List (List ℕ)) (k r : ℕ) → phase_of balls k r [] ≡ []
unfolding phase_of phase
phase_of_none balls k r = refl

phase_of_lead : {balls : List (List ℕ)} {k r a : ℕ} {rest : List ℕ} → IsReady balls k r (a ∷ rest)
    → phase_of balls k r (a ∷ rest) ≡ cluster_of balls k r (a ∷ rest) a ∷ phase_of balls k r
    (apart balls (cluster_of balls k r (a ∷ rest) a).members (a ∷ rest))
unfolding phase_of phase
phase_of_lead {balls} {k} {r} {a} {rest} ready =
    let c = cluster_of balls k r (a ∷ rest) a in
    let later = apart balls c.members (a ∷ rest) in
    let fewer = apart_fewer (cluster_ready ready) in
    ap (λ (cs : List GrownCluster). c ∷ cs)
    (phase_enough (length rest) (length later) later (ready_filter (λ v. not (touches balls c.members v)) ready)
    (omega arith) (le_refl (length later)))

pub phase_of_next : {balls : List (List ℕ)} {k r a : ℕ} {waiting rest : List ℕ} → waiting ≡ a ∷ rest
    → IsReady balls k r waiting → phase_of balls k r waiting ≡ cluster_of balls k r waiting a ∷ phase_of balls k r
    (apart balls (cluster_of balls k r waiting a).members waiting)
phase_of_next {balls} {k} {r} {a} leads ready =
    rw leads (phase_of_lead (rw leads at ready))

phases_none : (balls : List (List ℕ)) (k more : ℕ) → phases balls k more [] ≡ []
unfolding phases
phases_none balls k zero = refl
phases_none balls k (suc more) = refl

phases_enough : {balls : List (List ℕ)} {k : ℕ} (m n : ℕ) (left : List ℕ) → IsReady balls k (length left) left
    → length left ≤ m → length left ≤ n → phases balls k m left ≡ phases balls k n left
unfolding phases first_phase
phases_enough {balls} {k} m n [] ready h g = phases_none balls k m ∙ sym (phases_none balls k n)
phases_enough zero n (v ∷ vs) ready h g = absurd (omega arith)
phases_enough (suc m) zero (v ∷ vs) ready h g = absurd (omega arith)
phases_enough {balls} {k} (suc m) (suc n) (v ∷ vs) ready h g =
    let cs = first_phase balls k v vs in
    let fewer = (first_phase_is ready).2 in
    ap (λ (later : List (List GrownCluster)). cs ∷ later)
    (phases_enough m n (without_home cs (v ∷ vs)) (ready_shrunk (λ w. not (is_homed cs w)) ready) (omega arith)
    (omega arith))

pub phases_of_none : (balls : List (List ℕ)) (k : ℕ) → phases_of balls k [] ≡ []
unfolding phases_of phases
phases_of_none balls k = refl

pub phases_of_next : {balls : List (List ℕ)} {k : ℕ} (left : List ℕ) → 0 < length left
    → IsReady balls k (length left) left → phases_of balls k left ≡ phase_of balls k (length left) left ∷ phases_of
    balls k (without_home (phase_of balls k (length left) left) left)
unfolding phases_of phase_of phases first_phase
phases_of_next [] some ready = absurd (omega arith)
phases_of_next {balls} {k} (v ∷ vs) some ready =
    let cs = first_phase balls k v vs in
    let left = without_home cs (v ∷ vs) in
    let fewer = (first_phase_is ready).2 in
    ap (λ (later : List (List GrownCluster)). cs ∷ later)
    (phases_enough (length vs) (length left) left (ready_shrunk (λ w. not (is_homed cs w)) ready) (omega arith)
    (le_refl (length left)))

-- ---- one cluster more

pub as_cluster_is : (balls : List (List ℕ)) (k r a n p : ℕ) (waiting : List ℕ)
    → as_cluster n p (cluster_of balls k r waiting a)
    ≡ record { first = a; members = record { room = n; members = (cluster_of balls k r waiting a).members }; phase = p }
unfolding as_cluster cluster_of
as_cluster_is balls k r a n p waiting = refl

pub filter_rest : (t : ℕ → Bool) (xs : List ℕ) → filter (λ v. not (has v (filter t xs))) xs ≡ filter (λ v. not (t v)) xs
filter_rest t xs = grind (arith, filter_same, has-filter)

-- the balls that the later clusters leave without a home, once those of the first are gone
unhomed_next : (c : GrownCluster) (cs : List GrownCluster) (left : List ℕ) → without_home (c ∷ cs) left
    ≡ without_home cs (filter (λ v. not (has v c.homed)) left)
unfolding is_homed
unhomed_next c cs left =
    grind (arith, filter_same, filter_twice)

unhomed_none : (left : List ℕ) → without_home [] left ≡ left
unfolding is_homed
unhomed_none [] = refl
unhomed_none (v ∷ vs) = ap (λ (l : List ℕ). v ∷ l) (unhomed_none vs)

-- what the steps keep
agrees_cluster : {n : ℕ} {all later : List (List GrownCluster)} {c : GrownCluster} {cs : List GrownCluster}
    {left : List ℕ} {before after : List Cluster} {home : List ℕ} (new_home : List ℕ) {p : ℕ}
    → Agrees n all ((c ∷ cs) ∷ later) left before home p → ((v : ℕ) → has v c.homed ≡ true → has v left ≡ true)
    → after ≡ before ++ as_cluster n p c ∷ [] → ((v : ℕ) → v < n → get_or new_home v 0 ≡ cond (has v c.homed)
    (length before) (get_or home v 0)) → Agrees n all (cs ∷ later) (filter (λ v. not (has v c.homed)) left) after
    new_home p
unfolding cluster_list all_clusters home_of
agrees_cluster {n} {all} {later} {c} {cs} {left} {before} {after} {home} new_home {p} so_far among adds homed = record {
  clusters_so_far = rw (
    adds,
    append_assoc before (as_cluster n p c ∷ [])
        (map (as_cluster n p) cs ++ cluster_list n (suc p) later),
  ) so_far.clusters_so_far;
  homes_so_far = λ v h. grind (arith, has-filter, home_step, length-append);
  phases_so_far = so_far.phases_so_far;
}

agrees_phase : {n : ℕ} {all later : List (List GrownCluster)} {left : List ℕ} {clusters : List Cluster} {home : List ℕ}
    {p : ℕ} → Agrees n all ([] ∷ later) left clusters home p → Agrees n all later left clusters home (suc p)
unfolding cluster_list all_clusters
agrees_phase so_far = grind arith

-- ---- a phase: its start, its steps, its end

pub in_phase_start : {balls : List (List ℕ)} {k r : ℕ} {waiting left : List ℕ} {clusters : List Cluster} {home : List ℕ}
    {p : ℕ} → IsBetween balls k left clusters home p → 0 < length left → waiting ≡ left → r ≡ length left
    → IsInPhase balls k r waiting left clusters home p
in_phase_start {balls} {k} {r} {left} {clusters} {home} {p} between some same counted =
    grind (arith, phases_of_next)

pub in_phase_end : {balls : List (List ℕ)} {k r : ℕ} {waiting left : List ℕ} {clusters : List Cluster} {home : List ℕ}
    {p : ℕ} → IsInPhase balls k r waiting left clusters home p → waiting ≡ []
    → IsBetween balls k left clusters home (suc p)
in_phase_end {balls} {k} {r} {left} phase none = record {
  left_ready = phase.left_ready;
  so_far = agrees_phase (rw (none, phase_of_none balls k r, unhomed_none left) at phase.so_far);
}

pub cluster_is : {balls : List (List ℕ)} {k r a : ℕ} {waiting rest : List ℕ} → waiting ≡ a ∷ rest
    → IsReady balls k r waiting → IsCluster balls k r waiting (cluster_of balls k r waiting a)
cluster_is {balls} {k} {r} {a} leads ready =
    rw leads (cluster_ready (rw leads at ready))

first_is : (balls : List (List ℕ)) (k r a : ℕ) (waiting : List ℕ) → (cluster_of balls k r waiting a).first ≡ a
unfolding cluster_of
first_is balls k r a waiting = refl

-- the leader waits no more
pub leader_gone : {balls : List (List ℕ)} {k r a : ℕ} {waiting rest : List ℕ} → waiting ≡ a ∷ rest
    → IsReady balls k r waiting → has a (apart balls (cluster_of balls k r waiting a).members waiting) ≡ false
leader_gone {balls} {k} {r} {a} {waiting} leads ready =
    let c = cluster_of balls k r waiting a in
    let is = cluster_is leads ready in
    let touched = rw (first_is balls k r a waiting) at (is.touching c.first is.leads) in
    grind (arith, touched, has-filter (λ v. not (touches balls c.members v)) a waiting)

pub in_phase_next : {balls : List (List ℕ)} {k r a : ℕ} {rest : List ℕ} {old new : Workspace} {before after : Cover}
    → old.waiting.members ≡ a ∷ rest → IsInPhase balls k r old.waiting.members old.left.members before.clusters.items
    before.home.items before.phases → IsAdded (length balls) balls (cluster_of balls k r old.waiting.members a) old new
    before after → IsInPhase balls k r new.waiting.members new.left.members after.clusters.items after.home.items
    after.phases
in_phase_next {balls} {k} {r} {a} {old} {after} leads phase added =
    let c = cluster_of balls k r old.waiting.members a in
    let is = cluster_is leads phase.ready in
    rw (added.waiting, added.left, added.phases) (record {
      ready = ready_filter (λ v. not (touches balls c.members v)) phase.ready;
      left_ready = ready_shrunk (λ v. not (has v c.homed)) phase.left_ready;
      waiting_left = λ v h.
          let w = filter_keeps (λ u. not (touches balls c.members u)) v old.waiting.members h in
          filter-has (λ u. not (has u c.homed)) v old.left.members (phase.waiting_left v w.0)
          (grind (arith, w.1, is.touching v));
      so_far = agrees_cluster after.home.items (rw (
        phase_of_next leads phase.ready,
        unhomed_next c (phase_of balls k r (apart balls c.members old.waiting.members)) old.left.members,
      ) at phase.so_far) (λ v h. phase.waiting_left v (is.waits v h)) added.clusters added.homes;
    })

-- ---- the start and the end of it all

pub ready_all : (balls : List (List ℕ)) (k : ℕ) → 0 < k → AreCentred balls
    → IsReady balls k (length (centres (length balls))) (centres (length balls))
ready_all balls k some centred = record {
  some = some;
  fits = le_refl (length (centres (length balls)));
  ascending = ascending-passing (λ v. true) 0 (length balls);
  centred = λ v h. grind (arith, cases_lt, false≢true, passing_over);
}

pub coarsening_is : (balls : List (List ℕ)) (k : ℕ) → phases_of balls k (centres (length balls)) ≡ coarsening balls k
unfolding phases_of
coarsening_is balls k = ap (λ (n : ℕ). phases balls k n (centres (length balls))) (length-centres (length balls))

pub coarsening_phases : (balls : List (List ℕ)) (k : ℕ) → 0 < k → AreCentred balls
    → ArePhases balls k (centres (length balls)) (coarsening balls k)
coarsening_phases balls k some centred =
    grind (arith, phases_are, ready_all, length-centres)

pub between_start : (balls : List (List ℕ)) (k : ℕ) {left : List ℕ} (home : List ℕ) → 0 < k → AreCentred balls
    → left ≡ centres (length balls) → IsBetween balls k left [] home 0
between_start balls k home some centred all = rw all (record {
  left_ready = ready_all balls k some centred;
  so_far = grind (arith, coarsening_is, has-passing);
})

-- ---- bounds on what is done

pub in_phase_bounds : {balls : List (List ℕ)} {k r : ℕ} {waiting left : List ℕ} {clusters : List Cluster}
    {home : List ℕ} {p : ℕ} → 0 < k → AreCentred balls → IsInPhase balls k r waiting left clusters home p
    → (length clusters ≤ length balls) × (p < length balls)
in_phase_bounds {balls} {k} {r} {waiting} {left} {clusters} {p} some centred phase =
    let all = centres (length balls) in
    let are = coarsening_phases balls k some centred in (
      omega (
        arith,
        ap length phase.so_far.clusters_so_far,
        length-append clusters (cluster_list (length balls) p
            (phase_of balls k r waiting ∷ phases_of balls k (without_home (phase_of balls k r waiting) left))),
        length-cluster_list (length balls) 0 (coarsening balls k),
        length-centres (length balls),
        clusters_within balls k all (coarsening balls k) are,
      ),
      omega (
        arith,
        phase.so_far.phases_so_far,
        length-centres (length balls),
        phases_within balls k all (coarsening balls k) are,
      ),
    )

-- with the cluster gone, none waits up to its leader
pub none_next : {balls : List (List ℕ)} {k r a : ℕ} {rest old new : List ℕ} → old ≡ a ∷ rest → IsReady balls k r old
    → new ≡ apart balls (cluster_of balls k r old a).members old → ((v : ℕ) → v < a → has v old ≡ false) → (v : ℕ)
    → v < a + 1 → has v new ≡ false
none_next {balls} {k} {r} {a} {old} leads ready gone none v h = rw gone (grind (
  arith,
  has-filter (λ u. not (touches balls (cluster_of balls k r old a).members u)) v old,
  none v,
  leader_gone leads ready,
))
