-- A cluster's row, and a table's readers, as they are read.
use Rattle.std.proofs.Common.{rules, ◌≡◌, Ok, Err, ℕ, zero, suc, ◌+◌, ◌<◌, ◌≤◌, true, false, List, [], ◌∷◌, length, get_or, sym, ◌∙◌, ap, subst, arith}
use Rattle.std.specs.List.Sorted.{IsBinarySearchResult}
use Rattle.std.specs.Ordering.{nat_cmp}
use Rattle.std.proofs.lemmas.List.Sorted.{searched}
use Rattle.cluster_tree.specs.PlaceLaws.{always_found, has_place}
use Rattle.std.specs.Prelude.{slice_range}
use Rattle.std.proofs.lemmas.Bool.{false_from_ne_true}
use Rattle.std.proofs.lemmas.List.{get_or-map, length-map}
use Rattle.node_set.specs.Ascending.{has, IsAscending}
use Rattle.node_set.specs.SetLaws.{below_each, length-passing-le}
use Rattle.region_plan.specs.Plan.{PlanCluster, cluster_in, weight_in}
use Rattle.region_plan.specs.Regions.{clusters_with}
use Rattle.net_graph.specs.Starts.{AreRowsOf}
use Rattle.net_graph.specs.RowLaws.{part_read, part_short, row_order, row_read, starts_long}
use Rattle.region_plan.specs.Kept.{Shape, readers_for, shape_with, weights_beside}
use Rattle.node_set.specs.BallLaws.{get_or-map_centres, length-map_centres}

-- ---- what a search for a member says

rising : (xs : List ℕ) → IsAscending xs → (i j : ℕ) → i ≤ j → j < length xs → get_or xs i 0 ≤ get_or xs j 0
rising [] ascending i j order short = absurd (omega arith)
rising (x ∷ xs) ascending zero zero order short = omega arith
rising (x ∷ xs) ascending zero (suc j) order short = omega (arith, below_each x xs j ascending.0 (omega arith))
rising (x ∷ xs) ascending (suc i) zero order short = absurd (omega arith)
rising (x ∷ xs) ascending (suc i) (suc j) order short = rising xs ascending.1 i j (omega arith) (omega arith)

pub found_member : (xs : List ℕ) (v k : ℕ) → IsAscending xs → IsBinarySearchResult (λ y. nat_cmp y v) xs (Ok k)
    → true ≡ has v xs
found_member xs v k ascending result =
    grind (arith, rising, has_place, searched xs v (Ok k) result (rising xs ascending))

pub missed_member : (xs : List ℕ) (v : ℕ) {k : ℕ} → IsAscending xs → IsBinarySearchResult (λ y. nat_cmp y v) xs (Err k)
    → false ≡ has v xs
missed_member xs v {k} ascending result =
    sym (false_from_ne_true (has v xs) (λ member. always_found xs v k ascending member result))

-- ---- readers

pub readers_count : {phases : ℕ} {clusters : List PlanCluster} {homes : List ℕ} {shape : Shape}
    → shape_with phases clusters homes ≡ shape → length shape.readers ≡ length homes
readers_count {clusters} {homes} is = grind (arith, length-map_centres)

pub length-containing : (clusters : List PlanCluster) (v : ℕ) → length (clusters_with clusters v) ≤ length clusters
length-containing clusters v = length-passing-le (λ c. has v (cluster_in clusters c).members) 0 (length clusters)

module _ {phases : ℕ} {clusters : List PlanCluster} {homes : List ℕ} {shape : Shape} (v : ℕ)
    (view : shape_with phases clusters homes ≡ shape) (below : v < length shape.homes) where
  short : v < length homes
  short = subst (λ (l : Shape). v < length l.homes) (sym view) below

  in_shape : clusters_with clusters v ≡ readers_for shape v
  in_shape = search (rules, get_or-map_centres, short)

  module _ {starts readers : List ℕ} (rows : AreRowsOf (length homes) (clusters_with clusters) starts readers) where
    pub node_start : v + 1 < length starts
    node_start = starts_long rows v short

    module _ {first next : ℕ} (at_first : first ≡ get_or starts v first) (at_next : next ≡ get_or starts (v + 1) next)
      where
        pub node_order : first ≤ next
        node_order = row_order rows v short at_first at_next

        module _ {list : List ℕ} (whole : list ≡ readers) where
          pub read_row : slice_range list first next ≡ readers_for shape v
          read_row = row_read rows v short at_first at_next whole ∙ in_shape

          pub row_short : length (slice_range list first next) ≤ length shape.clusters
          row_short = subst (λ (l : Shape). length (slice_range list first next) ≤ length l.clusters) view
              (omega (arith, ap length (row_read rows v short at_first at_next whole), length-containing clusters v))

  -- ---- the weight beside a reader

  module _ {starts weights : List ℕ} (beside : AreRowsOf (length homes) (weights_beside clusters) starts weights)
      {first : ℕ} (at_first : first ≡ get_or starts v first) (place : ℕ)
      (inside : place < length (readers_for shape v)) where
    has_reader : place < length (clusters_with clusters v)
    has_reader = rw in_shape inside

    has_weight : place < length (weights_beside clusters v)
    has_weight = omega (arith, has_reader, length-map (clusters_with clusters v) (λ c. weight_in clusters c v))

    pub weight_short : first + place < length weights
    weight_short = part_short beside v short at_first place has_weight

    pub weight_read : get_or weights (first + place) 0
        ≡ weight_in shape.clusters (get_or (readers_for shape v) place 0) v
    weight_read = part_read beside v short at_first place 0 has_weight
        ∙ get_or-map (λ c. weight_in clusters c v) (clusters_with clusters v) place 0 0 has_reader
        ∙ ap (λ (cs : List ℕ). weight_in clusters (get_or cs place 0) v) in_shape
        ∙ ap (λ (l : Shape). weight_in l.clusters (get_or (readers_for shape v) place 0) v) view
