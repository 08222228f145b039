-- The parts of a level, step by step.
use Rattle.std.proofs.Common.{rules, ◌≡◌, ℕ, zero, suc, ◌+◌, ◌-◌, ◌<◌, ◌≤◌, true, List, [], ◌∷◌, ◌++◌, length, map, take, drop, replicate, get_or, refl, sym, ◌∙◌, ap, arith}
use Rattle.std.specs.Prelude.{All, Contains, slice_range}
use Rattle.std.proofs.lemmas.List.{map_push, length-append, length-drop, length-replicate, get_or_default, take_all, take-append-le, drop-append-le, drop_all}
use Rattle.net_graph.specs.Network.{Network}
use Rattle.node_set.specs.Ascending.{has, sift}
use Rattle.node_set.specs.Nodes.{Nodes}
use Rattle.distances.specs.Table.{DistanceTable, IsRowOf, dist, ball_of, IsMetric}
use Rattle.coarse_cover.specs.declared.cover.Cluster.{Cluster}
use Rattle.std.proofs.lemmas.Grind.{same_number_lists}
use Rattle.cluster_tree.specs.Inside.{AreWeightsWritten}
use Rattle.cluster_tree.specs.Tree.{weight_beside}
use Rattle.region_plan.specs.Plan.{PlanCluster, Level}
use Rattle.region_plan.specs.Meanings.{IsTop, IsClusterOf, AreClustersOf}
use Rattle.region_plan.specs.Flat.{IsWhole, IsWholeAlone, IsFlatLevel}
use Rattle.region_plan.specs.Kept.{IsSized, level_of, shape_with}
use Rattle.node_set.specs.Balls.{centres, sets}
use Rattle.node_set.specs.BallLaws.{below_centre, has_centre, length-map_centres, get_or-map_centres}
use Rattle.cluster_tree.specs.PlaceLaws.{beside_map}
use Rattle.region_plan.proofs.Lists.{made_more, map_same}

-- ---- part of a list that grew

pub range_old : (xs ys : List ℕ) (a b : ℕ) → a ≤ b → b ≤ length xs → slice_range (xs ++ ys) a b ≡ slice_range xs a b
range_old xs ys a b order short = grind (arith, drop-append-le, length-drop, take-append-le)

pub range_new : (xs ys : List ℕ) {a b : ℕ} → a ≡ length xs → b ≡ length (xs ++ ys) → slice_range (xs ++ ys) a b ≡ ys
range_new xs ys {a} {b} from to = grind (arith, drop-append-le, drop_all, length-append, take_all)

pub range_behind : (xs ys : List ℕ) {all : List ℕ} {a : ℕ} → a ≡ length xs → all ≡ xs ++ ys
    → take (length all - a) (drop a all) ≡ ys
range_behind xs ys {a} from grown =
    ap (λ l. take (length l - a) (drop a l)) grown ∙ range_new xs ys from refl

-- ---- the balls, and the cluster of all nodes

pub more_balls : (table : DistanceTable) (radius v : ℕ) (old : List Nodes) {new : List Nodes} (ball : Nodes)
    → sets old ≡ map (λ u. ball_of table u radius) (centres v) → ball.members ≡ ball_of table v radius
    → new ≡ old ++ ball ∷ [] → sets new ≡ map (λ u. ball_of table u radius) (centres (v + 1))
more_balls table radius v old ball before is now =
    made_more (λ u. ball_of table u radius) v before is (ap sets now ∙ map_push (λ (b : Nodes). b.members) old ball)

module _ {table : DistanceTable} (metric : IsMetric table) {cells nodes : List ℕ} {depth : ℕ}
    (all : nodes ≡ centres table.nodes) (row : IsRowOf table 0 cells)
    (bound : All (λ x. x ≤ depth) cells) (attained : 0 < length cells → Contains cells depth) where
  filled : cells ≡ map (λ u. dist table 0 u) (centres table.nodes)
  filled = grind (arith, length-map_centres, get_or-map_centres, same_number_lists)

  below : (v : ℕ) → has v nodes ≡ true → v < table.nodes
  below v h = below_centre table.nodes v (ap (has v) (sym all) ∙ h)

  beside : (v : ℕ) → has v nodes ≡ true → weight_beside v nodes cells ≡ dist table 0 v
  beside v h = search (rules, filled, beside_map, has_centre, below)

  pub whole_is : IsWhole table (record { leader = 0; phase = 0; members = nodes; weights = cells; depth = depth })
  whole_is = grind (arith, filled, beside, below, has_centre, get_or_default)

-- ---- the flat level and the flat plan

pub flat_level_is : {table : DistanceTable} {top : ℕ} {clusters : List PlanCluster} {homes : List ℕ} {level : Level}
    → IsTop table top → IsWholeAlone table clusters → homes ≡ replicate {A = ℕ} table.nodes 0
    → level ≡ level_of top 1 (shape_with 1 clusters homes) → IsFlatLevel table level
flat_level_is {table} {top} {homes} top_is alone zeros is =
    rw (is, alone.alone) (search (rules, replicated, length-replicate, map_same, has_centre))
  where
    replicated_from : (v n : ℕ) → replicate {A = ℕ} n 0 ≡ map (λ v. 0) (sift (λ x. true) v n)
    replicated_from v zero = refl
    replicated_from v (suc n) = ap (λ xs. 0 ∷ xs) (replicated_from (suc v) n)

    replicated : (n : ℕ) → replicate {A = ℕ} n 0 ≡ map (λ v. 0) (centres n)
    replicated n = replicated_from 0 n

pub level_sized : {n : ℕ} (exponent threshold phases : ℕ) (clusters : List PlanCluster) (homes : List ℕ) {level : Level}
    → level ≡ level_of exponent threshold (shape_with phases clusters homes) → length homes ≡ n → length clusters ≤ n
    → exponent ≤ 30 → IsSized n level
level_sized exponent threshold phases clusters homes is nodes few light = search (rules, length-map_centres)

-- ---- a cluster of a cover, as a row

pub row_is : {network : Network} (made : Cluster) {nodes old new : List ℕ} {depth : ℕ} → nodes ≡ made.members.members
    → (is : AreWeightsWritten network nodes made.first old new depth) → IsClusterOf network made (record {
      leader = made.first;
      phase = made.phase;
      members = nodes;
      weights = is.weights;
      depth = depth;
    })
row_is {network} made {nodes} {depth} listed is = search rules

pub more_clusters : {network : Network} (made : List Cluster) (rows : List PlanCluster) {c : Cluster} {d : PlanCluster}
    → AreClustersOf network made rows → IsClusterOf network c d
    → AreClustersOf network (made ++ c ∷ []) (rows ++ d ∷ [])
more_clusters [] rows are is = grind arith
more_clusters (b ∷ bs) [] are is = absurd are
more_clusters (b ∷ bs) (e ∷ es) are is = (are.0, more_clusters bs es are.1 is)

pub clusters_count : (network : Network) (made : List Cluster) (rows : List PlanCluster)
    → AreClustersOf network made rows → length made ≡ length rows
clusters_count network [] rows are = grind arith
clusters_count network (b ∷ bs) [] are = absurd are
clusters_count network (b ∷ bs) (e ∷ es) are = omega (arith, clusters_count network bs es are.1)

pub clusters_at : (network : Network) (made : List Cluster) (rows : List PlanCluster) → AreClustersOf network made rows
    → (c : ℕ) (d : Cluster) (e : PlanCluster) → c < length made
    → IsClusterOf network (get_or made c d) (get_or rows c e)
clusters_at network [] rows are c d e below = absurd (omega arith)
clusters_at network (b ∷ bs) [] are c d e below = absurd are
clusters_at network (b ∷ bs) (f ∷ fs) are zero d e below = are.0
clusters_at network (b ∷ bs) (f ∷ fs) are (suc c) d e below = clusters_at network bs fs are.1 c d e (omega arith)
