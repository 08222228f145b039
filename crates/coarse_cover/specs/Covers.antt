-- A cover as it is given: the clusters of all phases one after another, and for each ball the
-- number of the cluster that is its home.
-- Key law: `coarsen` gives the cover of its balls' coarsening, by its clause `exact`.
use Rattle.std.specs.Prelude.{◌≡◌, ℕ, suc, false, List, [], ◌∷◌, ◌++◌, length, map, All}
use Rattle.node_set.specs.Ascending.{share}
use Rattle.coarse_cover.specs.Coarsening.{all_clusters}
use Rattle.coarse_cover.specs.declared.cover.Cluster.{Cluster}
use Rattle.node_set.specs.Balls.{GrownCluster, centres, home_of}
use Rattle.coarse_cover.specs.declared.cover.Cover.{Cover}

-- a cluster of phase p, over n nodes
unfoldable pub as_cluster : ℕ → ℕ → GrownCluster → Cluster
as_cluster n p c = record {
  first = c.first;
  members = record { room = n; members = c.members };
  phase = p;
}

-- the clusters of the phases from p on
unfoldable pub cluster_list : ℕ → ℕ → List (List GrownCluster) → List Cluster
cluster_list n p [] = []
cluster_list n p (clusters ∷ later) = map (as_cluster n p) clusters ++ cluster_list n (suc p) later

-- the cover has the clusters of these phases, and sends each ball to its home
pub record IsCover (n : ℕ) (all : List (List GrownCluster)) (cover : Cover) : Type 0 where
  pub clusters : cover.clusters.items ≡ cluster_list n 0 all
  pub homes : cover.home.items ≡ map (home_of (all_clusters all)) (centres n)
  pub phases : cover.phases ≡ length all

-- of the clusters of one phase no two share a node
abbrev pub AreApart : List Cluster → Type 0
AreApart [] = Unit {0}
AreApart (c ∷ cs) = All (λ (d : Cluster). d.phase ≡ c.phase
    → share c.members.members d.members.members ≡ false) cs × AreApart cs

-- the nodes of each cluster
abbrev pub member_lists : List Cluster → List (List ℕ)
member_lists clusters = map (λ (c : Cluster). c.members.members) clusters
