-- How far the making of a mean cover has come: what is done, followed by what the definition gives
-- for the balls that wait, is what it gives for all. Only the private functions of this crate speak
-- of it.
-- Key law: `add_cluster` adds the next cluster (`IsAdded`).
use Rattle.std.specs.Prelude.{◌≡◌, ℕ, ◌+◌, ◌<◌, true, cond, not, List, [], ◌∷◌, ◌++◌, length, slice_index, filter, map}
use Rattle.node_set.specs.Ascending.{has, IsAscending}
use Rattle.node_set.specs.Balls.{ball, GrownCluster, home_of}
use Rattle.node_set.specs.declared.workspace.Workspace.{Workspace}
use Rattle.mean_cover.specs.Covering.{mean_clusters, mean_covering}
use Rattle.mean_cover.specs.MeanCovers.{as_mean_cluster}
use Rattle.mean_cover.specs.declared.cover.MeanCluster.{MeanCluster}
use Rattle.mean_cover.specs.declared.cover.MeanCover.{MeanCover}

-- the clusters from these waiting balls on
unfoldable pub clusters_from : List (List ℕ) → ℕ → List ℕ → List GrownCluster
clusters_from balls k waiting = mean_clusters balls k (length waiting) waiting

-- what the waiting balls are
pub record IsReady (balls : List (List ℕ)) (waiting : List ℕ) : Type 0 where
  pub ascending : IsAscending waiting
  pub centred : (v : ℕ) → has v waiting ≡ true → has v (ball balls v) ≡ true

-- these clusters and homes, followed by what comes later, are those of all balls
pub record IsUnderWay (balls : List (List ℕ)) (k : ℕ) (waiting : List ℕ)
    (clusters : List MeanCluster) (home : List ℕ) : Type 0 where
  pub ready : IsReady balls waiting
  pub clusters_so_far : clusters
      ++ map (as_mean_cluster (length balls)) (clusters_from balls k waiting)
      ≡ map (as_mean_cluster (length balls)) (mean_covering balls k)
  pub homes_so_far : (v : ℕ) → v < length balls
      → cond (has v waiting) (length clusters + home_of (clusters_from balls k waiting) v)
      (slice_index home v) ≡ home_of (mean_covering balls k) v

-- the cluster c was added: its balls have their home and wait no more
pub record IsAdded (n : ℕ) (c : GrownCluster) (old new : Workspace)
    (before after : MeanCover) : Type 0 where
  pub waiting : new.waiting.members ≡ filter (λ v. not (has v c.homed)) old.waiting.members
  pub clusters : after.clusters.items ≡ before.clusters.items ++ as_mean_cluster n c ∷ []
  pub homes : (v : ℕ) → v < n
      → slice_index after.home.items v ≡
      cond (has v c.homed) (length before.clusters.items) (slice_index before.home.items v)
  pub home_count : length after.home.items ≡ n
