-- What a finished mean cover is, and what follows of its clusters.
use Rattle.std.proofs.Common.{◌≡◌, ℕ, ◌+◌, ◌^◌, ◌<◌, ◌≤◌, true, List, [], ◌∷◌, length, get_or, map, refl, sym, ◌∙◌, ap, arith}
use Rattle.std.specs.Prelude.{All}
use Rattle.std.specs.List.{sum_by}
use Rattle.std.proofs.lemmas.Grind.{same_number_lists}
use Rattle.std.proofs.lemmas.List.{append-nil, get_or-map, length-map}
use Rattle.std.proofs.lemmas.List.Elements.{All-weaker}
use Rattle.std.proofs.lemmas.List.Sums.{sum_by-cons}
use Rattle.node_set.specs.Ascending.{has}
use Rattle.node_set.specs.Balls.{AreCentred, AreHomes, AreInside, GrownCluster, ball, centres, home_of}
use Rattle.node_set.specs.BallLaws.{get_or-map_centres, has_centre, length-centres, union_has}
use Rattle.node_set.specs.HomeLaws.{home_has, home_within}
use Rattle.whole_powers.specs.Bounds.{PowersAdd}
use Rattle.mean_cover.specs.Covering.{MeanClustersAreShaped, MeanCoversAreSmall, MeanHomesAreFound, mean_clusters, mean_covering, sum_of_sizes}
use Rattle.mean_cover.specs.MeanCovers.{IsMeanCover, as_mean_cluster, member_lists}
use Rattle.mean_cover.specs.HalfMade.{IsUnderWay, clusters_from}
use Rattle.mean_cover.specs.declared.cover.MeanCluster.{MeanCluster}
use Rattle.mean_cover.specs.declared.cover.MeanCover.{MeanCover}
use Rattle.mean_cover.proofs.Clusters.{all_homed, all_shaped, covering_mean, covering_small}

-- ---- the end

from_none : (balls : List (List ℕ)) (k : ℕ) → clusters_from balls k [] ≡ []
unfolding clusters_from mean_clusters
from_none balls k = refl

pub is_mean_cover : (balls : List (List ℕ)) (k : ℕ) (waiting : List ℕ) (cover : MeanCover)
    → IsUnderWay balls k waiting cover.clusters.items cover.home.items → waiting ≡ []
    → length cover.home.items ≡ length balls → IsMeanCover (length balls) (mean_covering balls k) cover
is_mean_cover balls k waiting cover so_far none sized =
    record {
      clusters = sym (append-nil cover.clusters.items)
          ∙ rw (none, from_none balls k) at so_far.clusters_so_far;
      homes = same_number_lists cover.home.items
          (map (home_of (mean_covering balls k)) (centres (length balls)))
          (sized ∙ sym (length-map (centres (length balls)) (home_of (mean_covering balls k))
          ∙ length-centres (length balls)))
          (λ v h. (rw none at (so_far.homes_so_far v (omega (arith, sized, h))))
          ∙ sym (get_or-map_centres (home_of (mean_covering balls k)) (length balls) v 0 (omega (arith, sized, h))));
    }

-- ---- laws for the layers above

pub clusters_shaped : MeanClustersAreShaped
clusters_shaped balls k low centred inside =
    all_shaped balls k (centres (length balls)) (mean_covering balls k) (covering_mean balls k low centred inside)

pub homes_found : MeanHomesAreFound
homes_found balls k v d low centred inside below =
    let homed = all_homed balls k (centres (length balls)) (mean_covering balls k)
    (covering_mean balls k low centred inside) v (has_centre (length balls) v below) in
    (home_within (mean_covering balls k) v homed, home_has (mean_covering balls k) v d homed)

pub covers_small : PowersAdd → MeanCoversAreSmall
covers_small adds balls k low centred inside = covering_small adds balls k low centred inside

-- ---- what the call says of a cover

pub growths_bounded : (balls : List (List ℕ)) (k : ℕ) → 0 < k → AreCentred balls → AreInside balls
    → All (λ c. c.growths ≤ k) (mean_covering balls k)
growths_bounded balls k low centred inside =
    grind (arith, All-weaker, clusters_shaped)

nodes_are : (n : ℕ) (all : List GrownCluster) → member_lists (map (as_mean_cluster n) all)
    ≡ map (λ (c : GrownCluster). c.members) all
unfolding as_mean_cluster
nodes_are n [] = refl
nodes_are n (c ∷ cs) = ap (λ (l : List (List ℕ)). c.members ∷ l) (nodes_are n cs)

sizes_are : (n : ℕ) (all : List GrownCluster)
    → sum_by (λ (d : MeanCluster). length d.members.members) (map (as_mean_cluster n) all) ≡ sum_of_sizes all
unfolding as_mean_cluster
sizes_are n [] = refl
sizes_are n (c ∷ cs) =
    sum_by-cons (λ (d : MeanCluster). length d.members.members) (as_mean_cluster n c) (map (as_mean_cluster n) cs)
    ∙ ap (λ (s : ℕ). length c.members + s) (sizes_are n cs)
    ∙ sym (sum_by-cons (λ (d : GrownCluster). length d.members) c cs)

no_cluster : GrownCluster
no_cluster = record { first = 0; growths = 0; homed = []; members = [] }

module _ (balls : List (List ℕ)) (k n : ℕ) (cover : MeanCover) (low : 0 < k) (centred : AreCentred balls)
    (inside : AreInside balls) (size : n ≡ length balls) (is : IsMeanCover n (mean_covering balls k) cover) where
  lists : member_lists cover.clusters.items ≡ map (λ (c : GrownCluster). c.members) (mean_covering balls k)
  lists = ap member_lists is.clusters ∙ nodes_are n (mean_covering balls k)

  pub count_is : length cover.clusters.items ≡ length (mean_covering balls k)
  count_is = ap length is.clusters ∙ length-map (mean_covering balls k) (as_mean_cluster n)

  pub sum_bounded : MeanCoversAreSmall
      → sum_by (λ (c : MeanCluster). length c.members.members) cover.clusters.items ^ k ≤ n ^ (k + 1)
  sum_bounded small =
      grind (arith, sizes_are)

  -- the cluster that is a ball's home has the ball's nodes
  home_has_nodes : (v x : ℕ) → v < length balls → has x (ball balls v) ≡ true
      → has x (get_or (mean_covering balls k) (home_of (mean_covering balls k) v) no_cluster).members ≡ true
  home_has_nodes v x below member =
      let found = homes_found balls k v no_cluster low centred inside below in
      let joined = (clusters_shaped balls k low centred inside (home_of (mean_covering balls k) v) no_cluster
      found.0).1 in
      ap (has x) joined ∙ union_has balls x v
      (get_or (mean_covering balls k) (home_of (mean_covering balls k) v) no_cluster).homed found.1 member

  pub homes_hold : AreHomes balls (member_lists cover.clusters.items) cover.home.items
  homes_hold v below =
      let found = homes_found balls k v no_cluster low centred inside below in
      let home : get_or cover.home.items v 0 ≡ home_of (mean_covering balls k) v =
      ap (λ (l : List ℕ). get_or l v 0) is.homes
      ∙ get_or-map_centres (home_of (mean_covering balls k)) n v 0 (omega (arith, size, below)) in
      let count : length (member_lists cover.clusters.items) ≡ length (mean_covering balls k) =
      ap length lists ∙ length-map (mean_covering balls k) (λ (c : GrownCluster). c.members) in (
        omega (arith, home, count, found.0),
        λ x member. rw home (ap (has x) (ap (λ (l : List (List ℕ)). get_or l (home_of (mean_covering balls k) v) [])
            lists
            ∙ get_or-map (λ (c : GrownCluster). c.members) (mean_covering balls k) (home_of (mean_covering balls k) v)
            no_cluster [] found.0) ∙ home_has_nodes v x below member),
      )
