-- The two coverings have the same laws: their clusters are shaped, and each ball has a home.
use Rattle.std.proofs.Common.{rules, ◌≡◌, ℕ, ◌-◌, ◌*◌, ◌≤◌, List, [], ◌∷◌, map, refl, ap, arith}
use Rattle.std.proofs.lemmas.List.{append-nil}
use Rattle.node_set.specs.Balls.{GrownCluster}
use Rattle.coarse_cover.specs.Coarsening.{ClustersAreShaped, HomesAreFound, all_clusters}
use Rattle.coarse_cover.specs.Covers.{IsCover, as_cluster, cluster_list}
use Rattle.coarse_cover.specs.declared.cover.Cluster.{Cluster}
use Rattle.coarse_cover.specs.declared.cover.Cover.{Cover}
use Rattle.mean_cover.specs.Covering.{MeanClustersAreShaped, MeanHomesAreFound, mean_covering}
use Rattle.mean_cover.specs.MeanCovers.{IsMeanCover, as_mean_cluster}
use Rattle.mean_cover.specs.declared.cover.MeanCover.{MeanCover}
use Rattle.region_plan.specs.Coverings.{CoveringsAreShaped, CoveringsHaveHomes, in_phase_0, reach_of, steps_of, trade_off_of}
use Rattle.region_plan.specs.declared.covering.Covering.{Covering}
use Rattle.region_plan.specs.declared.covering.Covering.TheVariants.{Phased, Mean}

-- the clusters of one phase
pub one_phase : (all : List GrownCluster) → all_clusters (all ∷ []) ≡ all
unfolding all_clusters
one_phase all = append-nil all

pub coverings_shaped : ClustersAreShaped → MeanClustersAreShaped → CoveringsAreShaped
coverings_shaped phased mean (Phased k) balls low centred inside = phased balls k low centred
coverings_shaped phased mean (Mean k) balls low centred inside =
    rw (one_phase (mean_covering balls k)) (mean balls k low centred inside)

pub coverings_homed : HomesAreFound → MeanHomesAreFound → CoveringsHaveHomes
coverings_homed phased mean (Phased k) balls v d low centred inside below = phased balls k v d low centred below
coverings_homed phased mean (Mean k) balls v d low centred inside below =
    rw (one_phase (mean_covering balls k)) (mean balls k v d low centred inside below)

-- the reach of a covering by the growths of its clusters
pub reach_is : (covering : Covering) → 1 ≤ trade_off_of covering → 2 * steps_of covering - 1 ≡ reach_of covering
reach_is (Phased k) low = refl
reach_is (Mean k) low = omega arith

-- is at most 17
pub reach_near : (covering : Covering) → trade_off_of covering ≤ 8 → reach_of covering ≤ 17
reach_near (Phased k) high = omega arith
reach_near (Mean k) high = omega arith

-- ---- a mean cover as a cover of one phase

phased_clusters : (n : ℕ) (all : List GrownCluster) → map in_phase_0 (map (as_mean_cluster n) all)
    ≡ map (as_cluster n 0) all
unfolding as_mean_cluster as_cluster
phased_clusters n [] = refl
phased_clusters n (c ∷ cs) = ap (λ (l : List Cluster). as_cluster n 0 c ∷ l) (phased_clusters n cs)

one_list : (n : ℕ) (all : List GrownCluster) → cluster_list n 0 (all ∷ []) ≡ map (as_cluster n 0) all
unfolding cluster_list
one_list n all = append-nil (map (as_cluster n 0) all)

pub phased_cover : {n : ℕ} {all : List GrownCluster} {cover : MeanCover} (made : Cover) → IsMeanCover n all cover
    → made.clusters.items ≡ map in_phase_0 cover.clusters.items → made.home.items ≡ cover.home.items → made.phases ≡ 1
    → IsCover n (all ∷ []) made
phased_cover {n} {all} made is clusters homes phases = search (rules, phased_clusters, one_list, one_phase)
