-- Mean covers: balls are merged into clusters whose sizes are small in the sum. A cluster grows by
-- the waiting balls that touch it, as long as that multiplies its nodes enough, and is the home of
-- all the balls of its last growth, so that these wait no more.
-- Key laws: `mean_cluster_shape` (each cluster grows at most k times from its leader's ball),
-- `mean_home_means` (each ball finds a home), `mean_covers_are_small` (the sum of the sizes, to the
-- power k, is at most n ^ (k + 1)), and the clause `homes` of `coarsen_mean`.
use Rattle.std.specs.Prelude.{◌≡◌, ℕ, zero, suc, ◌+◌, ◌*◌, ◌^◌, ◌<◌, ◌≤◌, Bool, true, not, List, [], ◌∷◌, slice_index_or, filter, length, nat_le, sum_by, All}
use Rattle.node_set.specs.Ascending.{has}
use Rattle.node_set.specs.Balls.{centres, AreCentred, AreInside, union_of, growth, least, GrownCluster, IsShaped, home_of}

-- how many nodes the cluster that a leads has after j growths
abbrev pub size_after : List (List ℕ) → List ℕ → ℕ → ℕ → ℕ
size_after balls waiting a j = length (union_of balls (growth balls waiting a j))

-- whether the growth after j growths is the last: it doesn't multiply the number of nodes, to the
-- power k, by more than the number of balls
unfoldable pub is_last : List (List ℕ) → ℕ → List ℕ → ℕ → ℕ → Bool
is_last balls k waiting a j =
    nat_le (size_after balls waiting a (suc j) ^ k)
    (length balls * size_after balls waiting a j ^ k)

-- the cluster that a leads, with its last growth: fewer than k growths come before that
unfoldable pub mean_cluster : List (List ℕ) → ℕ → List ℕ → ℕ → GrownCluster
mean_cluster balls k waiting a =
    let j = least (is_last balls k waiting a) k in
    record {
      first = a;
      growths = suc j;
      homed = growth balls waiting a (suc j);
      members = union_of balls (growth balls waiting a (suc j));
    }

-- the clusters: the least waiting centre leads a cluster, the balls that it is the home of are
-- waiting no more, and so on, with at most so many clusters
unfoldable pub mean_clusters : List (List ℕ) → ℕ → ℕ → List ℕ → List GrownCluster
mean_clusters balls k zero waiting = []
mean_clusters balls k (suc more) [] = []
mean_clusters balls k (suc more) (a ∷ rest) =
    let cluster = mean_cluster balls k (a ∷ rest) a in
    cluster ∷ mean_clusters balls k more (filter (λ v. not (has v cluster.homed)) (a ∷ rest))

-- the clusters of these balls
abbrev pub mean_covering : List (List ℕ) → ℕ → List GrownCluster
mean_covering balls k = mean_clusters balls k (length balls) (centres (length balls))

-- all clusters are grown at most k times from their leader's ball, and have the nodes of the balls
-- that they are the home of
abbrev pub MeanClustersAreShaped : Type 0
MeanClustersAreShaped = (balls : List (List ℕ)) (k : ℕ) → 0 < k → AreCentred balls
    → AreInside balls → All (IsShaped balls (suc k)) (mean_covering balls k)

-- each ball is one of those that its home was grown from
abbrev pub MeanHomesAreFound : Type 0
MeanHomesAreFound = (balls : List (List ℕ)) (k v : ℕ) (d : GrownCluster) → 0 < k → AreCentred balls
    → AreInside balls → v < length balls
    → (home_of (mean_covering balls k) v < length (mean_covering balls k))
    × (has v (slice_index_or (mean_covering balls k) (home_of (mean_covering balls k) v) d).homed
    ≡ true)

-- the sizes of all clusters
abbrev pub sum_of_sizes : List GrownCluster → ℕ
sum_of_sizes clusters = sum_by (λ (c : GrownCluster). length c.members) clusters

-- and they are small in the sum
abbrev pub MeanCoversAreSmall : Type 0
MeanCoversAreSmall = (balls : List (List ℕ)) (k : ℕ) → 0 < k → AreCentred balls → AreInside balls
    → sum_of_sizes (mean_covering balls k) ^ k ≤ length balls ^ (k + 1)
