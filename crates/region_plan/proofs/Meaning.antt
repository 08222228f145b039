-- The plan of a network is what its parts say in words of walks, and the only plan that is.
use Rattle.std.proofs.Common.{rules, ◌≡◌, ℕ, zero, suc, ◌+◌, ◌-◌, ◌*◌, ◌/◌, ◌%◌, ◌^◌, ◌<◌, ◌≤◌, Bool, true, List, [], ◌∷◌, get_or, length, map, refl, sym, ◌∙◌, ap, subst, inl, inr, arith, nat_le}
use Rattle.std.specs.Prelude.{All}
use Rattle.std.proofs.lemmas.Bool.{cases_lt, leb-false, leb-true}
use Rattle.std.proofs.lemmas.List.{length-map, get_or-map}
use Rattle.std.proofs.lemmas.List.Elements.{All-head, All-tail}
use Rattle.std.proofs.lemmas.Nat.{div-add-mod', div_below}
use Rattle.net_graph.specs.LeastWeights.{LeastWeightsAreFound, least_weight}
use Rattle.net_graph.specs.Network.{Network, IsNetwork}
use Rattle.node_set.specs.Ascending.{has}
use Rattle.node_set.specs.Balls.{least}
use Rattle.node_set.specs.BallLaws.{get_or-map_centres, length-map_centres, least_first, least_passes, least_within}
use Rattle.distances.specs.Table.{DistanceTable, AreDistancesOf, DistancesAreOne, IsDiameter, IsMetric, NetworksHaveDistances, table_of}
use Rattle.coarse_cover.specs.Coarsening.{CoversAreSparse}
use Rattle.coarse_cover.specs.Covers.{cluster_list}
use Rattle.coarse_cover.specs.declared.cover.Cluster.{Cluster}
use Rattle.cluster_tree.specs.PlaceLaws.{beside_map, has_place, member_place}
use Rattle.cluster_tree.specs.Tree.{weight_beside, within}
use Rattle.region_plan.specs.Kept.{IsSpanned}
use Rattle.mean_cover.specs.Covering.{MeanCoversAreSmall}
use Rattle.region_plan.specs.Coverings.{CoveringsAreShaped, CoveringsHaveHomes}
use Rattle.region_plan.specs.Matched.{CoveredPlansBoundFinds, MeanPlansHaveSmallSums, PlansHaveFewReaders}
use Rattle.region_plan.specs.Measures.{most}
use Rattle.region_plan.specs.Meanings.{IsTop, IsClusterOf, AreClustersOf, PlansMean, CoveredPlansMean, CoveredPlansAreOne}
use Rattle.region_plan.specs.Plan.{no_level}
use Rattle.region_plan.specs.Regions.{covered_plan, level_for, plan_over, regions_of, top_for, weighed}
use Rattle.region_plan.specs.declared.covering.Covering.TheVariants.{Mean}
use Rattle.region_plan.proofs.Alone.{LeastIsOne, one_plan}
use Rattle.region_plan.proofs.Matching.{plan_bounds}
use Rattle.region_plan.proofs.Measuring.{greatest_in, most_bounds}
use Rattle.region_plan.proofs.Spanning.{listed_spanned}
use Rattle.region_plan.proofs.Small.{small_sums}
use Rattle.region_plan.proofs.Sparse.{few_readers}

-- ---- the top level

widest : (table : DistanceTable) → 1 ≤ table.nodes → length table.cells ≡ table.nodes * table.nodes
    → IsDiameter table (most table.cells)
widest table some count =
    let n : ℕ = table.nodes in
    let peak = greatest_in table.cells (omega (arith, count, square n some)) in
    let at_below : peak.at < n * n = omega (arith, peak.below, count) in
    record {
      greatest = λ u v hu hv. most_bounds table.cells (u * n + v);
      attained = record {
        from = peak.at / n;
        to = peak.at % n;
        from_below = div_below peak.at n n some at_below;
        to_below = omega arith;
        far = ap (λ i. get_or table.cells i 0) (div-add-mod' peak.at n) ∙ peak.is;
      };
    }
  where
    square : (n : ℕ) → 1 ≤ n → 1 ≤ n * n
    square zero h = absurd (omega arith)
    square (suc n) h = omega arith

-- each number is below its power of two
power_above : (d : ℕ) → d < 2 ^ d
power_above zero = omega arith
power_above (suc d) = let double : 2 ^ suc d ≡ 2 * 2 ^ d = omega arith in omega (arith, power_above d)

top_is : {table : DistanceTable} {diameter : ℕ} → IsDiameter table diameter → IsTop table (top_for diameter)
top_is {diameter = d} greatest =
    let test : ℕ → Bool = λ i. nat_le d (2 ^ i) in
    record {
      diameter = d;
      greatest = greatest;
      enough = elim (cases_lt (least test d) d) [
        | inl less ↦ leb-true d (2 ^ least test d) (least_passes test d less)
        | inr whole ↦
            let same : least test d ≡ d = omega (arith, least_within test d) in
            rw same (omega (arith, power_above d))
      ];
      least = λ i h. leb-false d (2 ^ i) (least_first test d i h);
    }

-- ---- a cluster

module _ (found : LeastWeightsAreFound) (network : Network) (sound : IsNetwork network) where
  cluster_is : (made : Cluster) → IsSpanned network made → IsClusterOf network made (weighed network made)
  cluster_is made spanned =
      let xs : List ℕ = made.members.members in
      let f : ℕ → ℕ = least_weight network (within xs) made.first in
      let beside : (v : ℕ) → has v xs ≡ true → weight_beside v xs (map f xs) ≡ f v = λ v h. beside_map f v xs h in
      let count : length (map f xs) ≡ length xs = length-map xs f in
      let leads = member_place made.first xs spanned.leads in
      let peak = greatest_in (map f xs) (omega (arith, count, leads.1)) in
      let at_below : peak.at < length xs = omega (arith, peak.below, count) in
      let far : f (get_or xs peak.at 0) ≡ most (map f xs) =
      sym (get_or-map f xs peak.at 0 0 at_below) ∙ peak.is in
      record {
        leader = refl;
        phase = refl;
        members = refl;
        tree = record {
          leader_is = refl;
          members_are = refl;
          each = λ v h. rw (beside v h) (found network (within xs) made.first v sound.limits (spanned.reached v h));
        };
        count = count;
        depth = record {
          greatest = λ v h.
              let place = member_place v xs h in
              omega (
                arith,
                beside v h,
                most_bounds (map f xs) place.0,
                get_or-map f xs place.0 0 0 place.1,
                ap f place.2,
              );
          attained = record {
            node = get_or xs peak.at 0;
            member = has_place xs peak.at at_below;
            far = beside (get_or xs peak.at 0) (has_place xs peak.at at_below) ∙ far;
          };
        };
      }

  clusters_are : (made : List Cluster) → All (IsSpanned network) made
      → AreClustersOf network made (map (weighed network) made)
  clusters_are [] all = tt
  clusters_are (c ∷ cs) all =
      search (rules, cluster_is, All-head, All-tail, clusters_are cs (All-tail (IsSpanned network) c cs all))

-- ---- a level, and the plan

pub means : LeastWeightsAreFound → NetworksHaveDistances → CoveringsAreShaped → CoveredPlansMean
unfolding covered_plan
means found distances shape covering network sound low =
    let table : DistanceTable = table_of network in
    let are : AreDistancesOf network table = (distances network sound).0 in
    let metric : IsMetric table = (distances network sound).1 in
    let top : ℕ = top_for (most table.cells) in
    let count = length-map_centres (level_for network table covering) (top + 1) in
    let last : top ≡ length (plan_over network table covering).levels - 1 = omega (arith, count) in
    record {
      distances = are;
      trade_off = refl;
      reach = refl;
      some = omega (arith, count);
      top = subst (IsTop table) last (top_is (widest table metric.some metric.count));
      each = λ i h. rw (get_or-map_centres (level_for network table covering) (top + 1) i no_level
          (omega (arith, h, count))) (record {
            exponent = refl;
            threshold = refl;
            phases = refl;
            clusters = clusters_are found network sound (cluster_list table.nodes 0 (regions_of table covering i))
                (listed_spanned metric are sound i covering low shape);
            homes = refl;
            readers = refl;
          });
    }

-- ---- the only plan that is

-- what is a plan of a network is the plan
pub plan_is_this : CoveredPlansMean → DistancesAreOne → LeastIsOne → CoveredPlansAreOne
plan_is_this plans_mean one_table one_weight covering network plan sound low is =
    one_plan one_table one_weight is (plans_mean covering network sound low)

pub bounds : CoveredPlansMean → NetworksHaveDistances → CoveringsAreShaped → CoveringsHaveHomes
    → CoveredPlansBoundFinds
unfolding covered_plan
bounds plans_mean distances shape homes covering network sound low =
    plan_bounds shape homes sound low (distances network sound).1 (plans_mean covering network sound low)

pub sparse : PlansMean → NetworksHaveDistances → CoversAreSparse → PlansHaveFewReaders
unfolding covered_plan
sparse plans_mean distances covers network k sound low =
    few_readers covers sound low (distances network sound).1 (plans_mean network k sound low)

pub small : CoveredPlansMean → NetworksHaveDistances → MeanCoversAreSmall → MeanPlansHaveSmallSums
unfolding covered_plan
small plans_mean distances covers network k sound low =
    small_sums covers sound low (distances network sound).1 (plans_mean (Mean k) network sound low)
