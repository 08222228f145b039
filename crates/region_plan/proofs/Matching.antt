-- The plan of a network is matched, and its clusters are within their radius.
use Rattle.std.proofs.Common.{rules, ◌≡◌, ℕ, ◌*◌, ◌^◌, ◌<◌, ◌≤◌, true, List, [], length, get_or, refl, sym, ◌∙◌, ap, arith}
use Rattle.std.proofs.lemmas.List.{get_or-map}
use Rattle.net_graph.specs.Walks.{IsLeastWeight, weight_of, everywhere}
use Rattle.net_graph.specs.Network.{Network, IsNetwork}
use Rattle.net_graph.specs.WalkLaws.{walk_widened}
use Rattle.node_set.specs.Ascending.{has}
use Rattle.node_set.specs.SetLaws.{has-passing}
use Rattle.distances.specs.Table.{IsMetric, dist, ball_of}
use Rattle.coarse_cover.specs.Coarsening.{all_clusters}
use Rattle.coarse_cover.specs.Covers.{cluster_list}
use Rattle.coarse_cover.specs.declared.cover.Cluster.{Cluster}
use Rattle.coarse_cover.specs.CoverLaws.{cluster_list_nodes, length-cluster_list}
use Rattle.cluster_tree.specs.Tree.{within}
use Rattle.region_plan.specs.Plan.{PlanData, nodes_of, levels_of, top_of, distance, level_at, cluster_at, clusters_of, members_of, home, readers, leader, inside}
use Rattle.region_plan.specs.Regions.{balls_of, regions_of, clusters_with}
use Rattle.region_plan.specs.Coverings.{CoveringsAreShaped, CoveringsHaveHomes, reach_of, trade_off_of}
use Rattle.region_plan.specs.Meanings.{IsClusterOf, IsCoveredPlan, IsLevelOf}
use Rattle.region_plan.specs.declared.covering.Covering.{Covering}
use Rattle.region_plan.specs.Matched.{IsMatched, IsWithinReach, BoundsFinds}
use Rattle.region_plan.proofs.Reaching.{to_ball}
use Rattle.region_plan.proofs.Spanning.{IsClose, centred, listed_close, inside as inside_balls}
use Rattle.node_set.specs.Balls.{GrownCluster, ball, home_of}
use Rattle.node_set.specs.BallLaws.{union_has, length-map_centres, get_or-map_centres}
use Rattle.region_plan.proofs.Making.{clusters_count, clusters_at}
use Rattle.region_plan.proofs.Measuring.{degree_bounds}

abbrev no_made : Cluster
no_made = record { first = 0; members = record { room = 0; members = [] }; phase = 0 }

abbrev no_grown : GrownCluster
no_grown = record { first = 0; growths = 0; homed = []; members = [] }

module _ (shape : CoveringsAreShaped) (found : CoveringsHaveHomes) {network : Network} (sound : IsNetwork network)
    {covering : Covering} (low : 1 ≤ trade_off_of covering) {plan : PlanData} (metric : IsMetric plan.distances)
    (is : IsCoveredPlan covering network plan) where
  module _ (i : ℕ) (below : i < levels_of plan) where
    abbrev made : List Cluster
    made = cluster_list (nodes_of plan) 0 (regions_of plan.distances covering i)

    level : IsLevelOf network plan.distances covering i (level_at plan i)
    level = is.each i below

    as_many : length made ≡ clusters_of plan i
    as_many = clusters_count network made (level_at plan i).clusters level.clusters

    cluster_is : (c : ℕ) → c < clusters_of plan i → IsClusterOf network (get_or made c no_made) (cluster_at plan i c)
    cluster_is c h = search (rules, clusters_at, as_many)

    close : (c : ℕ) → c < clusters_of plan i → IsClose network (reach_of covering * 2 ^ i) (get_or made c no_made)
    close c h = listed_close metric is.distances sound i covering low shape c no_made (omega (arith, as_many))

    made_member : (c v : ℕ) → c < clusters_of plan i → has v (members_of plan i c) ≡ true
        → has v (get_or made c no_made).members.members ≡ true
    made_member c v h member = ap (has v) (sym (cluster_is c h).members) ∙ member

    pub member_below : (c v : ℕ) → c < clusters_of plan i → has v (members_of plan i c) ≡ true → v < nodes_of plan
    member_below c v h member = omega (arith, (close c h).below v (made_member c v h member), is.distances.nodes)

    pub leader_member : (c : ℕ) → c < clusters_of plan i → has (leader plan i c) (members_of plan i c) ≡ true
    leader_member c h = grind (arith, cluster_is, close)

    weighs : (c v : ℕ) → c < clusters_of plan i → has v (members_of plan i c) ≡ true
        → IsLeastWeight network.edges (within (get_or made c no_made).members.members) (get_or made c no_made).first v
        (inside plan i c v)
    weighs c v h member = (cluster_is c h).tree.each v (made_member c v h member)

    pub leader_inside : (c : ℕ) → c < clusters_of plan i → inside plan i c (leader plan i c) ≡ 0
    leader_inside c h =
        let least = (weighs c (leader plan i c) h (leader_member c h)).least []
        ((close c h).leads, sym (cluster_is c h).leader) in
        omega (arith, least)

    pub inside_far : (c v : ℕ) → c < clusters_of plan i → has v (members_of plan i c) ≡ true
        → distance plan (leader plan i c) v ≤ inside plan i c v
    inside_far c v h member =
        let walk = (weighs c v h member).attained in
        let first : (get_or made c no_made).first < network.nodes =
        (close c h).below (get_or made c no_made).first (close c h).leads in
        let v_below : v < nodes_of plan = member_below c v h member in
        let far : dist plan.distances (get_or made c no_made).first v ≤ weight_of walk.steps =
        (is.distances.each (get_or made c no_made).first v (omega (arith, is.distances.nodes)) v_below).least walk.steps
        (walk_widened network.nodes network.edges (within (get_or made c no_made).members.members) everywhere
        sound.limits.edges (λ x hx inner. refl)
        (get_or made c no_made).first walk.steps v first walk.walk)
        in
        rw (cluster_is c h).leader (omega (arith, far, walk.sum))

    pub inside_near : (c v : ℕ) → c < clusters_of plan i → has v (members_of plan i c) ≡ true
        → inside plan i c v ≤ reach_of covering * 2 ^ i
    inside_near c v h member = grind (arith, close c h, made_member c v h member, weighs c v h member)

    -- ---- homes

    abbrev groups : List GrownCluster
    groups = all_clusters (regions_of plan.distances covering i)

    groups_count : length groups ≡ clusters_of plan i
    groups_count = sym (length-cluster_list (nodes_of plan) 0 (regions_of plan.distances covering i)) ∙ as_many

    home_is : (v : ℕ) → v < nodes_of plan → home plan i v ≡ home_of groups v
    home_is v h = search (rules, get_or-map_centres)

    ball_below : (v : ℕ) → v < nodes_of plan → v < length (balls_of plan.distances i)
    ball_below v h = omega (arith, length-map_centres (λ u. ball_of plan.distances u (2 ^ i)) (nodes_of plan))

    found_home : (v : ℕ) → v < nodes_of plan → (home_of groups v < length groups)
        × (has v (get_or groups (home_of groups v) no_grown).homed ≡ true)
    found_home v h =
        found covering (balls_of plan.distances i) v no_grown low (centred metric is.distances sound i)
        (inside_balls metric is.distances sound i) (ball_below v h)

    pub home_below : (v : ℕ) → v < nodes_of plan → home plan i v < clusters_of plan i
    home_below v h = omega (arith, home_is v h, groups_count, (found_home v h).0)

    group_members : (c : ℕ) → c < length groups → (get_or made c no_made).members.members
        ≡ (get_or groups c no_grown).members
    group_members c h =
        sym (get_or-map (λ (d : Cluster). d.members.members) made c no_made [] (omega (arith, groups_count, as_many)))
        ∙ ap (λ (xs : List (List ℕ)). get_or xs c [])
        (cluster_list_nodes (nodes_of plan) 0 (regions_of plan.distances covering i))
        ∙ get_or-map (λ (g : GrownCluster). g.members) groups c no_grown [] h

    in_home : (v x : ℕ) → v < nodes_of plan → has x (ball (balls_of plan.distances i) v) ≡ true
        → has x (members_of plan i (home plan i v)) ≡ true
    in_home v x h member =
        let c : ℕ = home_of groups v in
        let is_within : c < length groups = (found_home v h).0 in
        let shaped = shape covering (balls_of plan.distances i) low (centred metric is.distances sound i)
        (inside_balls metric is.distances sound i) c no_grown is_within in
        rw (home_is v h)
        (ap (has x) ((cluster_is c (omega (arith, groups_count))).members ∙ group_members c is_within ∙ shaped.1)
        ∙ union_has (balls_of plan.distances i) x v (get_or groups c no_grown).homed (found_home v h).1 member)

    near_home : (u v : ℕ) → u < nodes_of plan → v < nodes_of plan → distance plan u v ≤ 2 ^ i
        → has v (members_of plan i (home plan i u)) ≡ true
    near_home u v hu hv near =
        in_home u v hu (to_ball metric is.distances sound.limits.edges (2 ^ i) u v hu hv near)

    pub reads : (v : ℕ) → v < nodes_of plan → readers plan i v ≡ clusters_with (level_at plan i).clusters v
    reads v h = search (rules, get_or-map_centres)

    pub own_home : (v : ℕ) → v < nodes_of plan → has v (members_of plan i (home plan i v)) ≡ true
    own_home v h = near_home v v h h (omega (arith, metric.zero v h))

    pub meets : (u v : ℕ) → u < nodes_of plan → v < nodes_of plan → distance plan u v ≤ 2 ^ (level_at plan i).exponent
        → has (home plan i u) (readers plan i v) ≡ true
    meets u v hu hv near = grind (arith, reads, home_below, has-passing, near_home)

    pub all_home : (u v : ℕ) → u < nodes_of plan → v < nodes_of plan → i ≡ top_of plan
        → has u (members_of plan i (home plan i v)) ≡ true
    all_home u v hu hv last =
        near_home v u hv hu (rw last (omega (arith, is.top.greatest.greatest v u hv hu, is.top.enough)))

  plan_matched : IsMatched plan
  plan_matched = search (
    rules,
    home_below,
    own_home,
    reads,
    meets,
    all_home,
    member_below,
    leader_member,
    leader_inside,
    inside_far,
  )

  plan_near : IsWithinReach plan
  plan_near i c v h hc member = rw (is.reach, (is.each i h).exponent) (inside_near i h c v hc member)

  pub plan_bounds : BoundsFinds plan
  plan_bounds = search (rules, plan_matched, plan_near, degree_bounds)
