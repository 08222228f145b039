-- Coarsening: balls are merged into clusters, phase by phase, so that few clusters overlap and no
-- cluster grows far.
-- Key laws: `cluster_shape` (each cluster grows at most k - 1 times from its leader's ball),
-- `home_means` (each ball finds a home), `covers_are_sparse` (few clusters overlap), and the
-- clauses of `coarsen`: `apart` (clusters of one phase are disjoint), `homes` (each ball lies in
-- its home).
use Rattle.std.specs.Prelude.{◌≡◌, ℕ, zero, suc, ◌*◌, ◌^◌, ◌<◌, Bool, true, not, List, [], ◌∷◌, slice_index_or, ◌++◌, ◌≤◌, count_by, length, filter, nat_le, All}
use Rattle.node_set.specs.Ascending.{has}
use Rattle.node_set.specs.Balls.{centres, AreCentred, union_of, touches, growth, least, GrownCluster, IsShaped, is_homed, home_of}

-- whether j growths are enough: one more would not multiply the number of balls, to the power k, by
-- more than r
unfoldable pub is_enough : List (List ℕ) → ℕ → ℕ → List ℕ → ℕ → ℕ → Bool
is_enough balls k r waiting a j =
    nat_le (length (growth balls waiting a (suc j)) ^ k) (r * length (growth balls waiting a j) ^ k)

-- the cluster that a leads, grown as often as is enough, which is less than k times
unfoldable pub cluster_of : List (List ℕ) → ℕ → ℕ → List ℕ → ℕ → GrownCluster
cluster_of balls k r waiting a =
    let j = least (is_enough balls k r waiting a) k in
    record {
      first = a;
      growths = j;
      homed = growth balls waiting a j;
      members =
          union_of balls (growth balls waiting a j);
    }

-- the clusters of a phase: the least waiting centre leads a cluster, the balls that touch it are
-- waiting no more, and so on, with at most so many clusters
unfoldable pub phase : List (List ℕ) → ℕ → ℕ → ℕ → List ℕ → List GrownCluster
phase balls k r zero waiting = []
phase balls k r (suc more) [] = []
phase balls k r (suc more) (a ∷ rest) =
    let cluster = cluster_of balls k r (a ∷ rest) a in
    cluster ∷ phase balls k r more (filter (λ v. not (touches balls cluster.members v)) (a ∷ rest))

-- the balls that have no home among the clusters
abbrev pub without_home : List GrownCluster → List ℕ → List ℕ
without_home clusters left = filter (λ v. not (is_homed clusters v)) left

-- the phases: each begins with all the balls that are left, and those that it finds a home for are
-- left no more; with at most so many phases
unfoldable pub phases : List (List ℕ) → ℕ → ℕ → List ℕ → List (List GrownCluster)
phases balls k zero left = []
phases balls k (suc more) [] = []
phases balls k (suc more) (v ∷ vs) =
    let clusters = phase balls k (length (v ∷ vs)) (length (v ∷ vs)) (v ∷ vs) in
    clusters ∷ phases balls k more (without_home clusters (v ∷ vs))

-- the clusters of all phases, in order
unfoldable pub all_clusters : List (List GrownCluster) → List GrownCluster
all_clusters [] = []
all_clusters (clusters ∷ later) = clusters ++ all_clusters later

-- the clusters of all phases of these balls
abbrev pub coarsening : List (List ℕ) → ℕ → List (List GrownCluster)
coarsening balls k = phases balls k (length balls) (centres (length balls))

-- all clusters of a coarsening are of that shape
abbrev pub ClustersAreShaped : Type 0
ClustersAreShaped = (balls : List (List ℕ)) (k : ℕ) → 0 < k → AreCentred balls
    → All (IsShaped balls k) (all_clusters (coarsening balls k))

-- each ball is one of those that its home was grown from
abbrev pub HomesAreFound : Type 0
HomesAreFound = (balls : List (List ℕ)) (k v : ℕ) (d : GrownCluster) → 0 < k → AreCentred balls
    → v < length balls
    → (home_of (all_clusters (coarsening balls k)) v < length (all_clusters (coarsening balls k)))
    × (has v (slice_index_or (all_clusters (coarsening balls k))
    (home_of (all_clusters (coarsening balls k)) v) d).homed ≡ true)

-- few clusters overlap: the number p of phases has p ^ k ≤ k ^ k * n for n balls, and no node is in
-- more than p clusters
abbrev pub IsSparse : List (List ℕ) → ℕ → List (List GrownCluster) → Type 0
IsSparse balls k regions = (length regions ^ k ≤ k ^ k * length balls)
    × ((v : ℕ) → count_by (λ c. has v c.members) (all_clusters regions) ≤ length regions)

-- each coarsening is so
abbrev pub CoversAreSparse : Type 0
CoversAreSparse = (balls : List (List ℕ)) (k : ℕ) → 0 < k → AreCentred balls
    → IsSparse balls k (coarsening balls k)
