-- A mean cover as it is given: the clusters in order, and for each ball the number of the cluster
-- that is its home.
-- Key law: `coarsen_mean` gives the cover of its balls, by its clause `exact`.
use Rattle.std.specs.Prelude.{◌≡◌, ℕ, List, map}
use Rattle.node_set.specs.Balls.{GrownCluster, centres, home_of}
use Rattle.mean_cover.specs.declared.cover.MeanCluster.{MeanCluster}
use Rattle.mean_cover.specs.declared.cover.MeanCover.{MeanCover}

-- a cluster, over n nodes
unfoldable pub as_mean_cluster : ℕ → GrownCluster → MeanCluster
as_mean_cluster n c = record {
  first = c.first;
  members = record { room = n; members = c.members };
}

-- the cover has these clusters, and sends each ball to its home
pub record IsMeanCover (n : ℕ) (all : List GrownCluster) (cover : MeanCover) : Type 0 where
  pub clusters : cover.clusters.items ≡ map (as_mean_cluster n) all
  pub homes : cover.home.items ≡ map (home_of all) (centres n)

-- the nodes of each cluster
abbrev pub member_lists : List MeanCluster → List (List ℕ)
member_lists clusters = map (λ (c : MeanCluster). c.members.members) clusters
