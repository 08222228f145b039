-- The clusters of a level: each is spanned from its leader, within its radius.
use Rattle.std.proofs.Common.{rules, ◌≡◌, ℕ, suc, ◌+◌, ◌-◌, ◌*◌, ◌^◌, ◌<◌, ◌≤◌, true, List, [], ◌∷◌, ◌++◌, length, map, get_or, sym, ◌∙◌, ap, arith}
use Rattle.std.specs.Prelude.{All}
use Rattle.std.proofs.Math.Nat.{mul-le-mul_right}
use Rattle.std.proofs.lemmas.List.{length-append, get_or_append_left, get_or-append-add}
use Rattle.std.proofs.lemmas.List.Elements.{All-nil, All-append, All-map}
use Rattle.net_graph.specs.Network.{Network, IsNetwork}
use Rattle.net_graph.specs.WalkLaws.{IsNoHeavier}
use Rattle.node_set.specs.Ascending.{has}
use Rattle.distances.specs.Table.{DistanceTable, AreDistancesOf, IsMetric, ball_of}
use Rattle.coarse_cover.specs.Coarsening.{all_clusters}
use Rattle.coarse_cover.specs.Covers.{cluster_list, as_cluster}
use Rattle.coarse_cover.specs.declared.cover.Cluster.{Cluster}
use Rattle.cluster_tree.specs.Tree.{within}
use Rattle.region_plan.specs.Coverings.{CoveringsAreShaped, reach_of, steps_of, trade_off_of}
use Rattle.region_plan.specs.Regions.{balls_of, regions_of}
use Rattle.region_plan.specs.declared.covering.Covering.{Covering}
use Rattle.region_plan.proofs.Covered.{reach_is}
use Rattle.region_plan.specs.Kept.{IsSpanned}
use Rattle.node_set.specs.Balls.{GrownCluster, IsShaped, union_of, growth, AreCentred, AreInside}
use Rattle.node_set.specs.BallLaws.{union_has, union_from, length-map_centres}
use Rattle.region_plan.proofs.Reaching.{near_more, in_ball, own_ball, near_leader, growth_leads}

-- ---- what holds of each part of a list

All-left : {X : Type 0} (P : X → Type 0) (xs ys : List X) → All P (xs ++ ys) → All P xs
All-left P xs ys all k d below = search (rules, get_or_append_left, length-append)

All-right : {X : Type 0} (P : X → Type 0) (xs ys : List X) → All P (xs ++ ys) → All P ys
All-right P xs ys all k d below = search (rules, get_or-append-add, length-append)

pub for_each_listed : (P : Cluster → Type 0) (Q : GrownCluster → Type 0) (n : ℕ)
    → ((p : ℕ) (c : GrownCluster) → Q c → P (as_cluster n p c))
    → (p : ℕ) (all : List (List GrownCluster)) → All Q (all_clusters all) → All P (cluster_list n p all)
unfolding cluster_list all_clusters
for_each_listed P Q n each p [] all = All-nil P
for_each_listed P Q n each p (cs ∷ later) all =
    All-append P (map (as_cluster n p) cs) (cluster_list n (suc p) later)
    (All-map P (as_cluster n p) cs (λ k d h. each p (get_or cs k d) (All-left Q cs (all_clusters later) all k d h)))
    (for_each_listed P Q n each (suc p) later (All-right Q cs (all_clusters later) all))

-- a cluster of a cover whose members are near the centre that leads it, inside the cluster
pub record IsClose (network : Network) (radius : ℕ) (c : Cluster) : Type 0 where
  pub room : c.members.room ≡ network.nodes
  pub leads : has c.first c.members.members ≡ true
  pub below : (v : ℕ) → has v c.members.members ≡ true → v < network.nodes
  pub near : (v : ℕ) → has v c.members.members ≡ true
      → IsNoHeavier network.edges (within c.members.members) c.first v radius

pub close_spans : {network : Network} {radius : ℕ} {c : Cluster} → IsClose network radius c → IsSpanned network c
close_spans close = search rules

module _ {network : Network} {table : DistanceTable} (metric : IsMetric table) (least : AreDistancesOf network table)
    (sound : IsNetwork network) (i : ℕ) where
  count : length (balls_of table i) ≡ table.nodes
  count = length-map_centres (λ u. ball_of table u (2 ^ i)) table.nodes

  pub centred : AreCentred (balls_of table i)
  centred v h = own_ball metric least sound.limits.edges (2 ^ i) v (omega (arith, count))

  -- the nodes of balls are nodes
  pub inside : AreInside (balls_of table i)
  inside v x h = omega (arith, (in_ball metric least sound.limits.edges (2 ^ i) v x h).1, count)

  module _ (covering : Covering) (low : 1 ≤ trade_off_of covering) where
    shape_close : (p : ℕ) (c : GrownCluster) → IsShaped (balls_of table i) (steps_of covering) c
        → IsClose network (reach_of covering * 2 ^ i) (as_cluster table.nodes p c)
    unfolding as_cluster
    shape_close p c shaped =
        let waiting : List ℕ = shaped.3.0 in
        let grown : List ℕ = growth (balls_of table i) waiting c.first c.growths in
        let below : c.first < table.nodes = omega (arith, shaped.2, count) in
        let is : c.members ≡ union_of (balls_of table i) grown =
        shaped.1 ∙ ap (union_of (balls_of table i)) shaped.3.2
        in
        record {
          room = least.nodes;
          leads = ap (has c.first) is ∙ union_has (balls_of table i) c.first c.first grown
              (growth_leads metric least sound.limits.edges (2 ^ i) waiting c.first below shaped.3.1 c.growths)
              (own_ball metric least sound.limits.edges (2 ^ i) c.first below);
          below = λ v h.
              let from = union_from (balls_of table i) v grown (ap (has v) (sym is) ∙ h) in
              omega (arith, (in_ball metric least sound.limits.edges (2 ^ i) from.0 v from.2).1, least.nodes);
          near = λ v h.
              near_more (reach_of covering * 2 ^ i) (enough c.growths (steps_of covering) (reach_of covering) (2 ^ i)
              shaped.0 (reach_is covering low)) (rw is (near_leader metric least sound.limits.edges (2 ^ i) waiting
              c.first below shaped.3.1 c.growths v (ap (has v) (sym is) ∙ h)));
        }
      where
        enough : (j k w r : ℕ) → j < k → 2 * k - 1 ≡ w → (2 * j + 1) * r ≤ w * r
        enough j k w r h is = mul-le-mul_right r (omega arith)

    pub listed_close : CoveringsAreShaped
        → All (IsClose network (reach_of covering * 2 ^ i)) (cluster_list table.nodes 0 (regions_of table covering i))
    listed_close law =
        for_each_listed (IsClose network (reach_of covering * 2 ^ i)) (IsShaped (balls_of table i) (steps_of covering))
        table.nodes shape_close 0 (regions_of table covering i)
        (law covering (balls_of table i) low centred inside)

    pub listed_spanned : CoveringsAreShaped → All (IsSpanned network)
        (cluster_list table.nodes 0 (regions_of table covering i))
    listed_spanned law j d h = close_spans (listed_close law j d h)
