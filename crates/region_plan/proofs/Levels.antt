-- A level as it is built, and the plan of all levels.
use Rattle.std.proofs.Common.{rules, ◌≡◌, ℕ, ◌+◌, ◌^◌, ◌<◌, ◌≤◌, List, [], ◌∷◌, ◌++◌, length, refl, sym, ◌∙◌, ap, subst, arith}
use Rattle.std.specs.Prelude.{All}
use Rattle.std.proofs.lemmas.Bool.{cases_lt}
use Rattle.std.proofs.lemmas.List.{get_or_append_left, get_or_push, length_push}
use Rattle.std.proofs.lemmas.List.Elements.{All-push}
use Rattle.net_graph.specs.Network.{Network, IsNetwork}
use Rattle.node_set.specs.Nodes.{Nodes}
use Rattle.distances.specs.Table.{DistanceTable, AreDistancesOf, IsMetric, ball_of}
use Rattle.coarse_cover.specs.Coarsening.{all_clusters}
use Rattle.coarse_cover.specs.Covers.{IsCover}
use Rattle.coarse_cover.specs.declared.cover.Cover.{Cover}
use Rattle.node_set.specs.declared.workspace.Workspace.{Workspace}
use Rattle.node_set.specs.Workspaces.{IsWorkspace}
use Rattle.region_plan.specs.Plan.{PlanCluster, Level, PlanData, level_in}
use Rattle.region_plan.specs.Regions.{balls_of, regions_of, readers_of, threshold_of}
use Rattle.region_plan.specs.Meanings.{IsTop, AreClustersOf, IsLevelOf, IsCoveredPlan}
use Rattle.region_plan.specs.Kept.{AreLevelsOf, IsSpanned, IsSized, Shape, level_of, plan_with, shape_with}
use Rattle.region_plan.specs.Coverings.{CoveringsAreShaped, covering_of, reach_of, trade_off_of}
use Rattle.region_plan.specs.declared.covering.Covering.{Covering}
use Rattle.region_plan.proofs.Spanning.{centred, inside, listed_spanned}
use Rattle.node_set.specs.Balls.{home_of, sets, AreCentred, AreInside}
use Rattle.node_set.specs.BallLaws.{length-sets, length-map_centres, get_or-map_centres}
use Rattle.node_set.specs.SetLaws.{has-passing}
use Rattle.node_set.specs.Turned.{AreTurned}
use Rattle.region_plan.proofs.Making.{clusters_count, level_sized}

-- a node is in a ball just where the ball's centre is in the node's ball
balls_are_rows : {table : DistanceTable} → IsMetric table → (i : ℕ) → AreTurned (balls_of table i) (balls_of table i)
balls_are_rows {table} metric i u v u_below v_below =
    grind (arith, length-map_centres, get_or-map_centres, has-passing)

module _ {table : DistanceTable} (metric : IsMetric table) (i : ℕ) (now : List Nodes)
    (are : sets now ≡ balls_of table i) where
  count : length now ≡ table.nodes
  count = sym (length-sets now) ∙ ap length are ∙ length-map_centres (λ v. ball_of table v (2 ^ i)) table.nodes

  pub balls_few : length now ≤ 1024
  balls_few = omega (arith, count, metric.few)

  pub balls_rooms : All (λ (b : Nodes). b.room ≡ table.nodes) now → All (λ (b : Nodes). b.room ≡ length now) now
  balls_rooms rooms = subst (λ (n : ℕ). All (λ (b : Nodes). b.room ≡ n) now) (sym count) rooms

  -- the workspace is for as many balls
  pub balls_work : {work : Workspace} → IsWorkspace table.nodes work → IsWorkspace (length now) work
  balls_work {work} = subst (λ (n : ℕ). IsWorkspace n work) (sym count)

  pub nodes_work : {network : Network} {work : Workspace} → AreDistancesOf network table → IsWorkspace (length now) work
      → IsWorkspace network.nodes work
  nodes_work {work} least = subst (λ (n : ℕ). IsWorkspace n work) (count ∙ least.nodes)

  -- the balls are their own rows
  pub balls_turned : AreTurned (sets now) (sets now)
  balls_turned = rw are (balls_are_rows metric i)

  pub balls_centred : {network : Network} → AreDistancesOf network table → IsNetwork network → AreCentred (sets now)
  balls_centred least sound = subst AreCentred (sym are) (centred metric least sound i)

  pub balls_inside : {network : Network} → AreDistancesOf network table → IsNetwork network → AreInside (sets now)
  balls_inside least sound = subst AreInside (sym are) (inside metric least sound i)

  module _ (covering : Covering) {cover : Cover} (exact : IsCover (length now) (covering_of covering (sets now)) cover)
    where
      cover_is : IsCover table.nodes (regions_of table covering i) cover
      cover_is = rw (count, are) at exact

      pub cover_spanned : {network : Network} → AreDistancesOf network table → IsNetwork network
          → 1 ≤ trade_off_of covering → CoveringsAreShaped → All (IsSpanned network) cover.clusters.items
      cover_spanned {network} least sound low law = subst (All (IsSpanned network)) (sym cover_is.clusters)
          (listed_spanned metric least sound i covering low law)

      pub homes_count : length cover.home.items ≡ table.nodes
      homes_count = ap length cover_is.homes
          ∙ length-map_centres (home_of (all_clusters (regions_of table covering i))) table.nodes

      module _ (network : Network) (rows : List PlanCluster)
          (rows_are : AreClustersOf network cover.clusters.items rows)
          (few : length cover.clusters.items ≤ length now) where
        pub rows_few : length rows ≤ table.nodes
        rows_few = omega (arith, clusters_count network cover.clusters.items rows rows_are, count)

        pub level_built : (shape : Shape) → shape ≡ shape_with cover.phases rows cover.home.items
            → IsLevelOf network table covering i (level_of i (threshold_of i) shape)
        level_built shape made =
            rw made (record {
              exponent = refl;
              threshold = refl;
              phases = cover_is.phases;
              clusters = rw cover_is.clusters at rows_are;
              homes = cover_is.homes;
              readers = ap (λ n. readers_of n rows) homes_count;
            })

        pub level_fits : (shape : Shape) → i ≤ 30 → shape ≡ shape_with cover.phases rows cover.home.items
            → IsSized table.nodes (level_of i (threshold_of i) shape)
        level_fits shape light made =
            level_sized i (threshold_of i) cover.phases rows cover.home.items (ap (level_of i (threshold_of i)) made)
            homes_count rows_few light

-- ---- the levels, one after another

pub more_levels : {network : Network} {table : DistanceTable} {covering : Covering} {i : ℕ} (old : List Level)
    {new : List Level} {level : Level} → length old ≡ i
    → ((j : ℕ) → j < i → IsLevelOf network table covering j (level_in old j)) → IsLevelOf network table covering i level
    → new ≡ old ++ level ∷ [] → (j : ℕ) → j < i + 1 → IsLevelOf network table covering j (level_in new j)
more_levels {network} {table} {covering} {i} old {new} {level} count each is now j below =
    grind (arith, cases_lt, count, get_or_append_left, get_or_push)

-- one level more
pub levels_more : {network : Network} {table : DistanceTable} {covering : Covering} {i : ℕ} {old new : List Level}
    {level : Level} → AreLevelsOf network table covering i old → IsLevelOf network table covering i level
    → IsSized table.nodes level → new ≡ old ++ level ∷ [] → AreLevelsOf network table covering (i + 1) new
levels_more {table} {old} {level} before is sized now = record {
  count_is = ap (length {A = Level}) now ∙ length_push old level ∙ ap (λ n. n + 1) before.count_is;
  each = more_levels old before.count_is before.each is now;
  sized = rw now (All-push (IsSized table.nodes) old level before.sized sized);
}

-- a level over a table of its own
pub levels_tabled : {network : Network} {table : DistanceTable} {covering : Covering} {i threshold : ℕ}
    {old new : List Level} (shape : Shape) → AreLevelsOf network table covering i old
    → IsLevelOf network table covering i (level_of i (threshold_of i) shape)
    → IsSized table.nodes (level_of i (threshold_of i) shape) → threshold ≡ threshold_of i
    → new ≡ old ++ level_of i threshold shape ∷ [] → AreLevelsOf network table covering (i + 1) new
levels_tabled {i} {old} shape before is sized same now =
    levels_more before is sized (now ∙ ap (λ t. old ++ level_of i t shape ∷ []) same)

pub plan_built : {network : Network} {table copy : DistanceTable} {covering : Covering} {k reach top : ℕ}
    (levels : List Level) {plan : PlanData} → AreDistancesOf network table → copy ≡ table → k ≡ trade_off_of covering
    → reach ≡ reach_of covering → plan ≡ plan_with k reach copy levels → length levels ≡ top + 1 → IsTop table top
    → ((j : ℕ) → j < top + 1 → IsLevelOf network table covering j (level_in levels j))
    → IsCoveredPlan covering network plan
plan_built {network} {table} {covering} {k} {reach} {top} levels least same k_is reach_is is count top_is each =
    search (rules, count)
