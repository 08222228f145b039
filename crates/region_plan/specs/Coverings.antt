-- The covers that a plan can have, with its trade-off k: the coarsening of the balls in phases, or
-- their mean cover, which is one phase. Either is a list of phases, each of grown clusters.
-- Key laws: `Plan::build_by` gives the plan over either; the laws that its private functions stand
-- on are `covering_shape` (each cluster grows fewer times than the covering takes steps) and
-- `covering_home_means` (each ball finds a home).
use Rattle.std.specs.Prelude.{◌≡◌, ℕ, suc, ◌+◌, ◌-◌, ◌*◌, ◌<◌, ◌≤◌, true, List, [], ◌∷◌, length, slice_index_or, All}
use Rattle.node_set.specs.Ascending.{has}
use Rattle.node_set.specs.Balls.{AreCentred, AreInside, GrownCluster, IsShaped, home_of}
use Rattle.coarse_cover.specs.Coarsening.{all_clusters, coarsening}
use Rattle.coarse_cover.specs.declared.cover.Cluster.{Cluster}
use Rattle.mean_cover.specs.Covering.{mean_covering}
use Rattle.mean_cover.specs.declared.cover.MeanCluster.{MeanCluster}
use Rattle.region_plan.specs.declared.covering.Covering.{Covering}
use Rattle.region_plan.specs.declared.covering.Covering.TheVariants.{Phased, Mean}

-- its trade-off
abbrev pub trade_off_of : Covering → ℕ
trade_off_of (Phased k) = k
trade_off_of (Mean k) = k

-- a cluster grows fewer times than that
abbrev pub steps_of : Covering → ℕ
steps_of (Phased k) = k
steps_of (Mean k) = suc k

-- how many radii of its level a member may be from its leader
abbrev pub reach_of : Covering → ℕ
reach_of (Phased k) = 2 * k - 1
reach_of (Mean k) = 2 * k + 1

-- the clusters of these balls, phase by phase
abbrev pub covering_of : Covering → List (List ℕ) → List (List GrownCluster)
covering_of (Phased k) balls = coarsening balls k
covering_of (Mean k) balls = mean_covering balls k ∷ []

-- a cluster of a mean cover, in the one phase that there is
abbrev pub in_phase_0 : MeanCluster → Cluster
in_phase_0 c = record { first = c.first; members = c.members; phase = 0 }

-- the clusters of either are grown fewer times than it takes steps
abbrev pub CoveringsAreShaped : Type 0
CoveringsAreShaped = (covering : Covering) (balls : List (List ℕ)) → 1 ≤ trade_off_of covering
    → AreCentred balls → AreInside balls
    → All (IsShaped balls (steps_of covering)) (all_clusters (covering_of covering balls))

-- and each ball is one of those that its home was grown from
abbrev pub CoveringsHaveHomes : Type 0
CoveringsHaveHomes = (covering : Covering) (balls : List (List ℕ)) (v : ℕ) (d : GrownCluster)
    → 1 ≤ trade_off_of covering → AreCentred balls → AreInside balls → v < length balls
    → (home_of (all_clusters (covering_of covering balls)) v
    < length (all_clusters (covering_of covering balls)))
    × (has v (slice_index_or (all_clusters (covering_of covering balls))
    (home_of (all_clusters (covering_of covering balls)) v) d).homed ≡ true)
