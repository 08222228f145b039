-- A network and k have one plan.
use Rattle.std.proofs.Common.{rules, ◌≡◌, ℕ, zero, suc, ◌<◌, Bool, true, List, [], ◌∷◌, length, get_or, sym, ◌∙◌, arith}
use Rattle.std.specs.Prelude.{All}
use Rattle.std.proofs.lemmas.List.{get_or_default, same_lists}
use Rattle.std.proofs.lemmas.List.Elements.{All-nil, All-cons, All-append, All-head, All-tail}
use Rattle.net_graph.specs.declared.edge.Edge.{Edge}
use Rattle.net_graph.specs.Network.{Network}
use Rattle.net_graph.specs.Walks.{IsLeastWeight}
use Rattle.node_set.specs.Ascending.{has, IsAscending}
use Rattle.distances.specs.Table.{DistanceTable, DistancesAreOne}
use Rattle.coarse_cover.specs.Coarsening.{all_clusters, cluster_of, phase, phases, without_home}
use Rattle.coarse_cover.specs.Covers.{cluster_list, as_cluster}
use Rattle.coarse_cover.specs.declared.cover.Cluster.{Cluster}
use Rattle.cluster_tree.specs.Tree.{weight_beside}
use Rattle.cluster_tree.specs.PlaceLaws.{has_place, beside_place}
use Rattle.region_plan.specs.Plan.{PlanCluster, Level, PlanData, level_at, levels_of, top_of}
use Rattle.node_set.specs.Balls.{GrownCluster}
use Rattle.node_set.specs.BallLaws.{ascending-union_of}
use Rattle.region_plan.specs.Regions.{regions_of}
use Rattle.mean_cover.specs.Covering.{mean_cluster, mean_clusters, mean_covering}
use Rattle.region_plan.specs.Coverings.{covering_of}
use Rattle.region_plan.specs.Meanings.{IsClusterOf, AreClustersOf, IsCoveredPlan, IsLevelOf}
use Rattle.region_plan.specs.declared.covering.Covering.{Covering}
use Rattle.region_plan.specs.declared.covering.Covering.TheVariants.{Phased, Mean}
use Rattle.region_plan.proofs.Covered.{one_phase}
use Rattle.region_plan.proofs.Spanning.{for_each_listed}
use Rattle.region_plan.specs.MeaningLaws.{depths_are_one, tops_are_one}

-- ---- the clusters of a coarsening have ascending members

abbrev Ascends : GrownCluster → Type 0
Ascends c = IsAscending c.members

abbrev Rises : Cluster → Type 0
Rises c = IsAscending c.members.members

shown_rises : (n p : ℕ) (c : GrownCluster) → Ascends c → Rises (as_cluster n p c)
unfolding as_cluster
shown_rises n p c ascends = ascends

phase_ascends : (balls : List (List ℕ)) (k r more : ℕ) (waiting : List ℕ) → All Ascends (phase balls k r more waiting)
unfolding phase cluster_of
phase_ascends balls k r zero waiting = All-nil Ascends
phase_ascends balls k r (suc more) [] = All-nil Ascends
phase_ascends balls k r (suc more) (a ∷ rest) =
    let cluster = cluster_of balls k r (a ∷ rest) a in
    All-cons Ascends cluster (phase balls k r more _) (ascending-union_of balls cluster.homed)
    (phase_ascends balls k r more _)

phases_ascend : (balls : List (List ℕ)) (k more : ℕ) (left : List ℕ)
    → All Ascends (all_clusters (phases balls k more left))
unfolding all_clusters phases
phases_ascend balls k zero left = All-nil Ascends
phases_ascend balls k (suc more) [] = All-nil Ascends
phases_ascend balls k (suc more) (v ∷ vs) =
    let n = length (v ∷ vs) in
    let clusters = phase balls k n n (v ∷ vs) in
    All-append Ascends clusters (all_clusters (phases balls k more (without_home clusters (v ∷ vs))))
    (phase_ascends balls k n n (v ∷ vs)) (phases_ascend balls k more (without_home clusters (v ∷ vs)))

-- the same of a mean cover
mean_ascends : (balls : List (List ℕ)) (k more : ℕ) (waiting : List ℕ)
    → All Ascends (mean_clusters balls k more waiting)
unfolding mean_clusters mean_cluster
mean_ascends balls k zero waiting = All-nil Ascends
mean_ascends balls k (suc more) [] = All-nil Ascends
mean_ascends balls k (suc more) (a ∷ rest) =
    let cluster = mean_cluster balls k (a ∷ rest) a in
    All-cons Ascends cluster (mean_clusters balls k more _) (ascending-union_of balls cluster.homed)
    (mean_ascends balls k more _)

covering_ascends : (covering : Covering) (balls : List (List ℕ))
    → All Ascends (all_clusters (covering_of covering balls))
covering_ascends (Phased k) balls = phases_ascend balls k _ _
covering_ascends (Mean k) balls = rw (one_phase (mean_covering balls k)) (mean_ascends balls k _ _)

-- ---- one cluster

same_weights : (xs ws us : List ℕ) → IsAscending xs → length ws ≡ length xs → length us ≡ length xs
    → ((v : ℕ) → has v xs ≡ true → weight_beside v xs ws ≡ weight_beside v xs us) → ws ≡ us
same_weights xs ws us rises one two same =
    same_lists ws us (one ∙ sym two) (λ i d below.
    get_or_default ws i d 0 below ∙ sym (beside_place xs ws i rises one (omega (arith, one)))
    ∙ same (get_or xs i 0) (has_place xs i (omega (arith, one)))
    ∙ beside_place xs us i rises two (omega (arith, one)) ∙ get_or_default us i 0 d (omega (arith, one, two)))

-- a network has one least weight between two nodes
abbrev pub LeastIsOne : Type 0
LeastIsOne = (edges : List Edge) (inside : ℕ → Bool) (u v w x : ℕ) → IsLeastWeight edges inside u v w
    → IsLeastWeight edges inside u v x → w ≡ x

same_cluster : (one_weight : LeastIsOne) {network : Network} {made : Cluster} {d e : PlanCluster} → Rises made
    → IsClusterOf network made d → IsClusterOf network made e → d ≡ e
same_cluster one_weight {network} {made} {d} {e} rises p q = search (rules, same_weights, depths_are_one)

same_clusters : (one_weight : LeastIsOne) (network : Network) (made : List Cluster) (ds es : List PlanCluster)
    → All Rises made
    → AreClustersOf network made ds → AreClustersOf network made es → ds ≡ es
same_clusters one_weight network [] ds es all p q = grind arith
same_clusters one_weight network (c ∷ cs) [] es all p q = absurd p
same_clusters one_weight network (c ∷ cs) (d ∷ ds) [] all p q = absurd q
same_clusters one_weight network (c ∷ cs) (d ∷ ds) (e ∷ es) all p q =
    let first : d ≡ e = same_cluster one_weight (All-head Rises c cs all) p.0 q.0 in
    let others : ds ≡ es = same_clusters one_weight network cs ds es (All-tail Rises c cs all) p.1 q.1 in
    cc

-- ---- one level, and one plan

same_level : (one_weight : LeastIsOne) {network : Network} {table : DistanceTable} {covering : Covering} {i : ℕ}
    {one two : Level} → IsLevelOf network table covering i one → IsLevelOf network table covering i two → one ≡ two
same_level one_weight {network} {table} {covering} {i} {one} {two} p q =
    let rise : All Rises (cluster_list table.nodes 0 (regions_of table covering i)) =
    for_each_listed Rises Ascends table.nodes (shown_rises table.nodes) 0 (regions_of table covering i)
    (covering_ascends covering _) in
    search (rules, same_clusters)

pub one_plan : (one_table : DistancesAreOne) (one_weight : LeastIsOne) {network : Network} {covering : Covering}
    {one two : PlanData} → IsCoveredPlan covering network one → IsCoveredPlan covering network two → one ≡ two
one_plan one_table one_weight {network} {covering} {one} {two} p q = search (rules, tables, levels)
  where
    tables : one.distances ≡ two.distances
    tables = one_table network one.distances two.distances p.distances q.distances

    tops : top_of one ≡ top_of two
    tops = tops_are_one two.distances (top_of one) (top_of two) (rw tables at p.top) q.top

    count : levels_of one ≡ levels_of two
    count = omega (arith, tops, p.some, q.some)

    level : (i : ℕ) → i < levels_of one → level_at one i ≡ level_at two i
    level i below = same_level one_weight (rw tables at (p.each i below)) (q.each i (omega (arith, count)))

    levels : one.levels ≡ two.levels
    levels = same_lists one.levels two.levels count (search (rules, get_or_default, level, count))
