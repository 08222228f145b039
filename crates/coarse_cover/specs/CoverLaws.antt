-- Short laws of the clusters of a cover, one after another.
-- Key laws: `length-cluster_list` (as many as the phases have), `cluster_list_nodes` (their nodes
-- are those of the clusters of the phases), `count_lists` (how many have a node).
use Rattle.std.proofs.Common.{◌≡◌, ℕ, suc, List, [], ◌∷◌, ◌++◌, length, length-append, map, refl, sym, ◌∙◌, ap, arith, ◌+◌, cond}
use Rattle.std.specs.List.{count_by, sum_by}
use Rattle.std.proofs.lemmas.List.Sums.{sum_by-cons}
use Rattle.node_set.specs.Ascending.{has}
use Rattle.node_set.specs.Balls.{GrownCluster}
use Rattle.coarse_cover.specs.Coarsening.{all_clusters}
use Rattle.coarse_cover.specs.Covers.{cluster_list, as_cluster}
use Rattle.coarse_cover.specs.declared.cover.Cluster.{Cluster}

length-map_as_cluster : (n p : ℕ) (cs : List GrownCluster) → length (map (as_cluster n p) cs)
    ≡ length cs
length-map_as_cluster n p [] = refl
length-map_as_cluster n p (c ∷ cs) = ap suc (length-map_as_cluster n p cs)

pub length-cluster_list : (n p : ℕ) (all : List (List GrownCluster)) → length (cluster_list n p all)
    ≡ length (all_clusters all)
unfolding cluster_list all_clusters
length-cluster_list n p [] = refl
length-cluster_list n p (cs ∷ later) =
    omega (
      arith,
      length-append (map (as_cluster n p) cs) (cluster_list n (suc p) later),
      length-append cs (all_clusters later),
      length-map_as_cluster n p cs,
      length-cluster_list n (suc p) later,
    )

map_nodes : (n p : ℕ) (cs : List GrownCluster)
    → map (λ (d : Cluster). d.members.members) (map (as_cluster n p) cs)
    ≡ map (λ (c : GrownCluster). c.members) cs
unfolding as_cluster
map_nodes n p [] = refl
map_nodes n p (c ∷ cs) = ap (λ (l : List (List ℕ)). c.members ∷ l) (map_nodes n p cs)

map-append : {X : Type 0} (f : X → List ℕ) (xs ys : List X) → map f (xs ++ ys)
    ≡ map f xs ++ map f ys
map-append f [] ys = refl
map-append f (x ∷ xs) ys = ap (λ (l : List (List ℕ)). f x ∷ l) (map-append f xs ys)

pub cluster_list_nodes : (n p : ℕ) (all : List (List GrownCluster))
    → map (λ (d : Cluster). d.members.members) (cluster_list n p all)
    ≡ map (λ (c : GrownCluster). c.members) (all_clusters all)
unfolding cluster_list all_clusters
cluster_list_nodes n p [] = refl
cluster_list_nodes n p (cs ∷ later) =
    map-append (λ (d : Cluster). d.members.members) (map (as_cluster n p) cs)
    (cluster_list n (suc p) later) ∙
    (rw (map_nodes n p cs, cluster_list_nodes n (suc p) later) refl
    ∙ sym (map-append (λ (c : GrownCluster). c.members) cs (all_clusters later)))

-- those of a list that hold x, by the lists of their nodes
pub count_lists : {X : Type 0} (f : X → List ℕ) (x : ℕ) (xs : List X)
    → count_by (λ c. has x (f c)) xs ≡ sum_by (λ m. cond (has x m) 1 0) (map f xs)
count_lists f x [] = refl
count_lists f x (y ∷ ys) =
    sum_by-cons (λ c. cond (has x (f c)) 1 0) y ys
    ∙ (ap (λ (n : ℕ). cond (has x (f y)) 1 0 + n) (count_lists f x ys)
    ∙ sym (sum_by-cons (λ (m : List ℕ). cond (has x m) 1 0) (f y) (map f ys)))
