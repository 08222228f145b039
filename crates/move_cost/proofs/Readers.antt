-- A cluster that holds a node is one of the few that the node reads.
use Rattle.std.proofs.Common.{◌≡◌, Err, Ok, ℕ, ◌<◌, ◌≤◌, true, List, [], ◌∷◌, length, map, refl, sym, ap, subst, arith}
use Rattle.std.specs.Prelude.{slice_index}
use Rattle.std.specs.List.Sorted.{IsBinarySearchResult}
use Rattle.std.specs.Ordering.{nat_cmp}
use Rattle.node_set.specs.Ascending.{IsAscending, has}
use Rattle.node_set.specs.SetLaws.{ascending-passing, has-passing, length-passing-le}
use Rattle.cluster_tree.specs.PlaceLaws.{always_found, beside_map, found_place}
use Rattle.region_plan.specs.Kept.{IsKept}
use Rattle.region_plan.specs.Matched.{IsMatched}
use Rattle.region_plan.specs.Plan.{PlanData, clusters_of, levels_of, members_of, nodes_of, readers}

map-self : (xs : List ℕ) → map (λ x. x) xs ≡ xs
map-self [] = refl
map-self (x ∷ xs) = ap (λ ys. x ∷ ys) (map-self xs)

module _ (plan : PlanData) (level cluster node : ℕ) (matched : IsMatched plan) (low : level < levels_of plan)
    (inside : node < nodes_of plan) where
  ascending : IsAscending (readers plan level node)
  ascending = grind (arith, ascending-passing)

  is-reader : cluster < clusters_of plan level → has node (members_of plan level cluster) ≡ true
      → has cluster (readers plan level node) ≡ true
  is-reader known member =
      grind (arith, has-passing)

  pub few-read : IsKept plan → length (readers plan level node) ≤ 1024
  few-read kept = grind (arith, length-passing-le)

  pub search-finds : (listed : List ℕ) (place : ℕ) → listed ≡ readers plan level node
      → cluster < clusters_of plan level → has node (members_of plan level cluster) ≡ true
      → IsBinarySearchResult (λ y. nat_cmp y cluster) listed (Ok place) → slice_index listed place ≡ cluster
  search-finds listed place same known member found =
      grind (arith, found_place, ascending, map-self, beside_map, is-reader)

  pub search-ends : (listed : List ℕ) (place : ℕ) → listed ≡ readers plan level node
      → cluster < clusters_of plan level → has node (members_of plan level cluster) ≡ true
      → IsBinarySearchResult (λ y. nat_cmp y cluster) listed (Err place) → ⊥
  search-ends listed place same known member =
      always_found listed cluster place (subst IsAscending (sym same) ascending)
      (subst (λ xs. has cluster xs ≡ true) (sym same) (is-reader known member))
