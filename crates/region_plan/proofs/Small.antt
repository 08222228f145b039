-- The clusters of a plan over mean covers are small in the sum.
use Rattle.std.proofs.Common.{◌≡◌, ℕ, ◌+◌, ◌^◌, ◌<◌, ◌≤◌, List, [], ◌∷◌, length, map, refl, sym, ◌∙◌, ap, subst, arith}
use Rattle.std.specs.List.{sum_by}
use Rattle.std.proofs.lemmas.List.Sums.{sum_by-cons}
use Rattle.net_graph.specs.Network.{Network, IsNetwork}
use Rattle.node_set.specs.Balls.{GrownCluster}
use Rattle.node_set.specs.BallLaws.{length-map_centres}
use Rattle.distances.specs.Table.{IsMetric, ball_of}
use Rattle.coarse_cover.specs.CoverLaws.{cluster_list_nodes}
use Rattle.coarse_cover.specs.Covers.{cluster_list}
use Rattle.mean_cover.specs.Covering.{MeanCoversAreSmall, mean_covering, sum_of_sizes}
use Rattle.region_plan.specs.Matched.{HasSmallSum}
use Rattle.region_plan.specs.Meanings.{IsCoveredPlan}
use Rattle.region_plan.specs.Plan.{PlanCluster, PlanData, level_at, levels_of, nodes_of}
use Rattle.region_plan.specs.Regions.{balls_of, regions_of}
use Rattle.region_plan.specs.declared.covering.Covering.TheVariants.{Mean}
use Rattle.region_plan.proofs.Covered.{one_phase}
use Rattle.region_plan.proofs.Spanning.{centred, inside}
use Rattle.region_plan.proofs.Sparse.{same_nodes}

-- the sum of the lengths of lists
sum_over : {X : Type 0} (f : X → List ℕ) (xs : List X) → sum_by (λ x. length (f x)) xs
    ≡ sum_by (length {A = ℕ}) (map f xs)
sum_over f [] = refl
sum_over f (x ∷ xs) =
    grind (arith, sum_by-cons (λ y. length (f y)) x xs, sum_over f xs, sum_by-cons (length {A = ℕ}) (f x) (map f xs))

module _ (covers : MeanCoversAreSmall) {network : Network} (sound : IsNetwork network) {k : ℕ} (low : 1 ≤ k)
    {plan : PlanData} (metric : IsMetric plan.distances) (is : IsCoveredPlan (Mean k) network plan) where
  sizes_are : (i : ℕ) → i < levels_of plan → sum_by (λ (c : PlanCluster). length c.members) (level_at plan i).clusters
      ≡ sum_of_sizes (mean_covering (balls_of plan.distances i) k)
  sizes_are i below =
      let regions : List (List GrownCluster) = regions_of plan.distances (Mean k) i in
      sum_over (λ (c : PlanCluster). c.members) (level_at plan i).clusters
      ∙ ap (sum_by (length {A = ℕ}))
      (same_nodes network (cluster_list (nodes_of plan) 0 regions) (level_at plan i).clusters (is.each i below).clusters
      ∙ cluster_list_nodes (nodes_of plan) 0 regions
      ∙ ap (map (λ (c : GrownCluster). c.members)) (one_phase (mean_covering (balls_of plan.distances i) k)))
      ∙ sym (sum_over (λ (c : GrownCluster). c.members) (mean_covering (balls_of plan.distances i) k))

  pub small_sums : HasSmallSum plan
  small_sums i below =
      rw (is.trade_off, sizes_are i below)
      (subst (λ (n : ℕ). sum_of_sizes (mean_covering (balls_of plan.distances i) k) ^ k ≤ n ^ (k + 1))
      (length-map_centres (λ u. ball_of plan.distances u (2 ^ i)) (nodes_of plan))
      (covers (balls_of plan.distances i) k low (centred metric is.distances sound i)
      (inside metric is.distances sound i)))
