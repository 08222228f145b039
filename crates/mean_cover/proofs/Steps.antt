-- What is done, and what the definition gives for the balls that wait.
use Rattle.std.proofs.Common.{◌≡◌, inl, inr, ℕ, zero, suc, ◌+◌, ◌<◌, ◌≤◌, Bool, true, false, cond, not, ◌&&◌, List, [], ◌∷◌, ◌++◌, length, length-append, append_assoc, get_or, map, refl, sym, ◌∙◌, ap, arith}
use Rattle.std.proofs.Math.Nat.{le_refl}
use Rattle.std.proofs.lemmas.Bool.{cases_lt, and_right}
use Rattle.std.proofs.lemmas.List.{length-map}
use Rattle.node_set.specs.Ascending.{has}
use Rattle.node_set.specs.Balls.{AreCentred, AreInside, GrownCluster, centres, home_of}
use Rattle.node_set.specs.BallLaws.{length-centres, has_centre}
use Rattle.node_set.specs.FilterLaws.{has-filter}
use Rattle.node_set.specs.HomeLaws.{home_step}
use Rattle.mean_cover.specs.Covering.{mean_cluster, mean_clusters, mean_covering}
use Rattle.mean_cover.specs.MeanCovers.{as_mean_cluster}
use Rattle.mean_cover.specs.HalfMade.{IsAdded, IsReady, IsUnderWay, clusters_from}
use Rattle.mean_cover.specs.declared.cover.MeanCluster.{MeanCluster}
use Rattle.mean_cover.specs.declared.cover.MeanCover.{MeanCover}
use Rattle.node_set.specs.declared.workspace.Workspace.{Workspace}
use Rattle.mean_cover.proofs.Clusters.{IsMeanCluster, clusters_within, covering_mean, is_mean_cluster, others, others_fewer, ready_all, ready_others}

-- ---- enough fuel is enough

clusters_none : (balls : List (List ℕ)) (k more : ℕ) → mean_clusters balls k more [] ≡ []
unfolding mean_clusters
clusters_none balls k zero = refl
clusters_none balls k (suc more) = refl

first_is : (balls : List (List ℕ)) (k a : ℕ) (waiting : List ℕ) → (mean_cluster balls k waiting a).first ≡ a
unfolding mean_cluster
first_is balls k a waiting = refl

module _ (balls : List (List ℕ)) (k : ℕ) (low : 0 < k) (inside : AreInside balls) where
  cluster_here : (a : ℕ) (rest : List ℕ) → IsReady balls (a ∷ rest)
      → IsMeanCluster balls k (a ∷ rest) (mean_cluster balls k (a ∷ rest) a)
  cluster_here a rest ready = is_mean_cluster balls k a rest low ready.centred inside

  clusters_enough : (m n : ℕ) (waiting : List ℕ) → IsReady balls waiting → length waiting ≤ m → length waiting ≤ n
      → mean_clusters balls k m waiting ≡ mean_clusters balls k n waiting
  unfolding mean_clusters
  clusters_enough m n [] ready h g = clusters_none balls k m ∙ sym (clusters_none balls k n)
  clusters_enough zero n (a ∷ rest) ready h g = absurd (omega arith)
  clusters_enough (suc m) zero (a ∷ rest) ready h g = absurd (omega arith)
  clusters_enough (suc m) (suc n) (a ∷ rest) ready h g =
      let fewer = others_fewer balls k (a ∷ rest) (mean_cluster balls k (a ∷ rest) a) (cluster_here a rest ready) in
      ap (λ (cs : List GrownCluster). mean_cluster balls k (a ∷ rest) a ∷ cs)
      (clusters_enough m n (others (mean_cluster balls k (a ∷ rest) a) (a ∷ rest))
      (ready_others balls (a ∷ rest) (mean_cluster balls k (a ∷ rest) a) ready) (omega (arith, fewer))
      (omega (arith, fewer)))

  from_lead : (a : ℕ) (rest : List ℕ) → IsReady balls (a ∷ rest) → clusters_from balls k (a ∷ rest)
      ≡ mean_cluster balls k (a ∷ rest) a
      ∷ clusters_from balls k (others (mean_cluster balls k (a ∷ rest) a) (a ∷ rest))
  unfolding clusters_from mean_clusters
  from_lead a rest ready =
      let fewer = others_fewer balls k (a ∷ rest) (mean_cluster balls k (a ∷ rest) a) (cluster_here a rest ready) in
      ap (λ (cs : List GrownCluster). mean_cluster balls k (a ∷ rest) a ∷ cs)
      (clusters_enough (length rest) (length (others (mean_cluster balls k (a ∷ rest) a) (a ∷ rest)))
      (others (mean_cluster balls k (a ∷ rest) a) (a ∷ rest))
      (ready_others balls (a ∷ rest) (mean_cluster balls k (a ∷ rest) a) ready) (omega (arith, fewer))
      (le_refl (length (others (mean_cluster balls k (a ∷ rest) a) (a ∷ rest)))))

  module _ (a : ℕ) (waiting rest : List ℕ) (leads : waiting ≡ a ∷ rest) (ready : IsReady balls waiting) where
    from_next : clusters_from balls k waiting
        ≡ mean_cluster balls k waiting a ∷ clusters_from balls k (others (mean_cluster balls k waiting a) waiting)
    from_next = rw leads (from_lead a rest (rw leads at ready))

    cluster_is : IsMeanCluster balls k waiting (mean_cluster balls k waiting a)
    cluster_is = rw leads (cluster_here a rest (rw leads at ready))

    -- the leader waits no more
    leader_gone : has a (others (mean_cluster balls k waiting a) waiting) ≡ false
    leader_gone =
        has-filter (λ v. not (has v (mean_cluster balls k waiting a).homed)) a waiting
        ∙ (ap (λ (b : Bool). has a waiting && not b) (rw (first_is balls k a waiting) at cluster_is.leads)
        ∙ and_right (has a waiting) false refl)

    -- with the cluster gone, none waits up to its leader
    pub none_next : (new : List ℕ) → new ≡ others (mean_cluster balls k waiting a) waiting
        → ((v : ℕ) → v < a → has v waiting ≡ false) → (v : ℕ) → v < a + 1 → has v new ≡ false
    none_next new gone none v h =
        ap (λ (l : List ℕ). has v l) gone ∙ elim (cases_lt v a) [
          | inl before ↦
              has-filter (λ u. not (has u (mean_cluster balls k waiting a).homed)) v waiting
              ∙ ap (λ (b : Bool). b && not (has v (mean_cluster balls k waiting a).homed)) (none v before)
          | inr now ↦
              let same : v ≡ a = omega arith in
              rw same leader_gone
        ]

-- ---- one cluster more

with_added : (balls : List (List ℕ)) (k : ℕ) (waiting new : List ℕ) (before after : List MeanCluster)
    (home new_home : List ℕ) (c : GrownCluster) → clusters_from balls k waiting ≡ c ∷ clusters_from balls k new
    → IsReady balls new → ((v : ℕ) → has v c.homed ≡ true → has v waiting ≡ true)
    → new ≡ others c waiting → after ≡ before ++ as_mean_cluster (length balls) c ∷ []
    → ((v : ℕ) → v < length balls → get_or new_home v 0 ≡ cond (has v c.homed) (length before) (get_or home v 0))
    → IsUnderWay balls k waiting before home → IsUnderWay balls k new after new_home
unfolding home_of
with_added balls k waiting new before after home new_home c next ready waits gone added homed so_far =
    record {
      ready = ready;
      clusters_so_far = rw (
        added,
        append_assoc before (as_mean_cluster (length balls) c ∷ [])
            (map (as_mean_cluster (length balls)) (clusters_from balls k new)),
      ) (rw next at so_far.clusters_so_far);
      homes_so_far = λ v h. rw (ap (has v) gone ∙ has-filter (λ w. not (has w c.homed)) v waiting)
          (home_step (has v waiting) (has v c.homed) (get_or home v 0) (get_or new_home v 0) (length before)
          (length after) (home_of (clusters_from balls k new) v) (home_of (mean_covering balls k) v) (waits v)
          (ap length added ∙ length-append before (as_mean_cluster (length balls) c ∷ []))
          (rw next at (so_far.homes_so_far v h)) (homed v h));
    }

pub under_way_next : (balls : List (List ℕ)) (k a : ℕ) (rest : List ℕ) (old new : Workspace) (before after : MeanCover)
    → 0 < k → AreInside balls → old.waiting.members ≡ a ∷ rest
    → IsUnderWay balls k old.waiting.members before.clusters.items before.home.items
    → IsAdded (length balls) (mean_cluster balls k old.waiting.members a) old new before after
    → IsUnderWay balls k new.waiting.members after.clusters.items after.home.items
under_way_next balls k a rest old new before after low inside leads so_far added =
    with_added balls k old.waiting.members new.waiting.members before.clusters.items after.clusters.items
    before.home.items after.home.items (mean_cluster balls k old.waiting.members a)
    (from_next balls k low inside a old.waiting.members rest leads so_far.ready
    ∙ ap (λ (l : List ℕ). mean_cluster balls k old.waiting.members a ∷ clusters_from balls k l) (sym added.waiting))
    (rw added.waiting (ready_others balls old.waiting.members (mean_cluster balls k old.waiting.members a)
    so_far.ready))
    (cluster_is balls k low inside a old.waiting.members rest leads so_far.ready).waits added.waiting added.clusters
    added.homes so_far

-- ---- the start, and how many there are

from_all : (balls : List (List ℕ)) (k : ℕ) → clusters_from balls k (centres (length balls)) ≡ mean_covering balls k
unfolding clusters_from
from_all balls k = ap (λ (n : ℕ). mean_clusters balls k n (centres (length balls))) (length-centres (length balls))

pub under_way_start : (balls : List (List ℕ)) (k : ℕ) (waiting : List ℕ) (home : List ℕ) → AreCentred balls
    → waiting ≡ centres (length balls) → IsUnderWay balls k waiting [] home
under_way_start balls k waiting home centred all =
    grind (arith, ready_all, from_all, has_centre)

pub clusters_few : (balls : List (List ℕ)) (k : ℕ) → 0 < k → AreCentred balls → AreInside balls
    → length (mean_covering balls k) ≤ length balls
clusters_few balls k low centred inside =
    omega (
      arith,
      length-centres (length balls),
      clusters_within balls k (centres (length balls)) (mean_covering balls k)
          (covering_mean balls k low centred inside),
    )

pub numbers_few : (balls : List (List ℕ)) (k : ℕ) (waiting : List ℕ) (clusters : List MeanCluster) (home : List ℕ)
    → 0 < k → AreCentred balls → AreInside balls → IsUnderWay balls k waiting clusters home
    → length clusters ≤ length balls
numbers_few balls k waiting clusters home low centred inside so_far =
    omega (
      arith,
      ap length so_far.clusters_so_far,
      length-append clusters (map (as_mean_cluster (length balls)) (clusters_from balls k waiting)),
      length-map (mean_covering balls k) (as_mean_cluster (length balls)),
      clusters_few balls k low centred inside,
    )
