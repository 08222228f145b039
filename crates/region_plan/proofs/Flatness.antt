-- The flat plan is matched.
use Rattle.std.proofs.Common.{rules, ◌≡◌, ℕ, ◌<◌, true, List, [], ◌∷◌, length, sym, ◌∙◌, ap, arith}
use Rattle.node_set.specs.Ascending.{has}
use Rattle.distances.specs.Table.{AreDistancesOf, DistanceTable, IsMetric}
use Rattle.net_graph.specs.Network.{Network}
use Rattle.region_plan.specs.Plan.{Level, PlanData, nodes_of, levels_of, top_of, distance, level_at, level_in, clusters_of, members_of, home, readers, leader, inside}
use Rattle.region_plan.specs.Regions.{clusters_with}
use Rattle.region_plan.specs.Flat.{IsFlat, IsFlatLevel}
use Rattle.region_plan.specs.Kept.{plan_with}
use Rattle.region_plan.specs.Matched.{IsMatched, IsWithinReach}
use Rattle.node_set.specs.BallLaws.{has_centre, below_centre, get_or-map_centres}
use Rattle.cluster_tree.specs.PlaceLaws.{beside_map}

module _ (network : Network) (plan : PlanData) (flat : IsFlat network plan) where
  pub flat_member : (v : ℕ) → v < nodes_of plan → has v (members_of plan 0 0) ≡ true
  flat_member v h = ap (has v) flat.level.whole.members ∙ has_centre (nodes_of plan) v h

  pub flat_below : (v : ℕ) → has v (members_of plan 0 0) ≡ true → v < nodes_of plan
  flat_below v h = below_centre (nodes_of plan) v (ap (has v) (sym flat.level.whole.members) ∙ h)

  pub flat_home : (v : ℕ) → v < nodes_of plan → home plan 0 v ≡ 0
  flat_home v h = search (rules, get_or-map_centres)

  pub flat_readers : (v : ℕ) → v < nodes_of plan → readers plan 0 v ≡ 0 ∷ []
  flat_readers v h = search (rules, get_or-map_centres)

  pub flat_leader : leader plan 0 0 ≡ 0
  flat_leader = flat.level.whole.leader

  pub flat_inside : (v : ℕ) → v < nodes_of plan → inside plan 0 0 v ≡ distance plan 0 v
  flat_inside v h = grind (arith, has_centre, beside_map)

  flat_containing : (v : ℕ) → v < nodes_of plan → clusters_with (level_at plan 0).clusters v ≡ 0 ∷ []
  flat_containing v h = grind (arith, flat_member)

  lone_level : (i : ℕ) → i < levels_of plan → i ≡ 0
  lone_level i h = omega (arith, flat.one)

  lone_cluster : (i c : ℕ) → i < levels_of plan → c < clusters_of plan i → c ≡ 0
  lone_cluster i c h hc = grind (arith, lone_level)

  top_is : top_of plan ≡ 0
  top_is = omega (arith, flat.one)

  pub flat_matched : IsMetric plan.distances → IsMatched plan
  flat_matched metric = grind (
    arith,
    lone_level,
    flat_home,
    flat_member,
    flat_readers,
    flat_containing,
    top_is,
    lone_cluster,
    flat_below,
    flat_leader,
    flat_inside,
  )

  pub flat_reached : IsWithinReach plan
  flat_reached i c v h hc = grind (arith, lone_level, lone_cluster, flat_below, flat_inside)

-- the plan of one flat level
pub flat_made : {network : Network} {table copy : DistanceTable} (levels : List Level) → AreDistancesOf network table
    → copy ≡ table → length levels ≡ 1 → IsFlatLevel table (level_in levels 0)
    → IsFlat network (plan_with 1 1 copy levels)
flat_made {network} levels belongs same one level = search rules
