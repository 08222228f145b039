-- Clusters in flat lists, as they are pushed.
use Rattle.std.proofs.Common.{rules, ◌≡◌, ◌<◌, ◌≤◌, ℕ, suc, ◌+◌, ◌-◌, List, [], ◌∷◌, ◌++◌, get_or, length, refl, subst, sym, ◌∙◌, ap, arith, drop}
use Rattle.std.specs.Prelude.{All, Contains, slice_range}
use Rattle.std.proofs.lemmas.List.{get_or-map, length-append, length-drop, length-map, length-take, map_push, take_all}
use Rattle.std.proofs.lemmas.List.Elements.{All-cons, All-nil, All-push}
use Rattle.node_set.specs.Ascending.{IsAscending}
use Rattle.node_set.specs.Balls.{centres}
use Rattle.node_set.specs.BallLaws.{length-centres}
use Rattle.node_set.specs.Nodes.{AreNodes}
use Rattle.node_set.specs.SetLaws.{ascending-passing, below-has}
use Rattle.net_graph.specs.Network.{Network}
use Rattle.cluster_tree.specs.Inside.{AreWeightsWritten}
use Rattle.coarse_cover.specs.declared.cover.Cluster.{Cluster}
use Rattle.region_plan.specs.Laid.{AreLaid, IsLaid, IsPushed, cluster_under, clusters_of_lists, clusters_over}
use Rattle.distances.specs.Table.{AreDistancesOf, DistanceTable, IsMetric, IsRowOf}
use Rattle.region_plan.specs.Flat.{IsWholeAlone}
use Rattle.region_plan.specs.Kept.{IsSpanned}
use Rattle.region_plan.specs.Plan.{PlanCluster, cluster_in, no_cluster}
use Rattle.region_plan.specs.declared.clusters.ClusterHead.{ClusterHead}
use Rattle.region_plan.specs.declared.clusters.ClusterLists.{ClusterLists}
use Rattle.region_plan.proofs.Making.{range_new, range_old, row_is, whole_is}

-- ---- a cluster as it is read

pub head_short : (lists : ClusterLists) {clusters : List PlanCluster} (c : ℕ) → clusters_of_lists lists ≡ clusters
    → c < length clusters → c < length lists.heads.items
head_short lists c view below = grind (arith, length-map)

module _ {lists : ClusterLists} {clusters : List PlanCluster} (c : ℕ) {head : ClusterHead} (laid : AreLaid lists)
    (view : clusters_of_lists lists ≡ clusters) (below : c < length clusters)
    (at : head ≡ get_or lists.heads.items c head) where
  pub head_laid : IsLaid lists.nodes.items head
  head_laid = subst (IsLaid lists.nodes.items) (sym at) (laid.each c head (head_short lists c view below))

  pub head_read : cluster_under lists.nodes.items lists.weights.items head ≡ cluster_in clusters c
  head_read = ap (cluster_under lists.nodes.items lists.weights.items) at
      ∙ sym (get_or-map (cluster_under lists.nodes.items lists.weights.items) lists.heads.items c head no_cluster
      (head_short lists c view below))
      ∙ ap (λ (cs : List PlanCluster). cluster_in cs c) view

  pub head_count : length (slice_range lists.weights.items head.start head.end) ≡ length (cluster_in clusters c).members
  head_count =
      omega (
        arith,
        ap (λ (k : PlanCluster). length k.members) head_read,
        length-take (head.end - head.start) (drop head.start lists.weights.items),
        length-take (head.end - head.start) (drop head.start lists.nodes.items),
        length-drop head.start lists.weights.items,
        length-drop head.start lists.nodes.items,
        laid.count,
      )

-- ---- a cluster more

old_laid : (nodes members : List ℕ) (heads : List ClusterHead) → All (IsLaid nodes) heads
    → All (IsLaid (nodes ++ members)) heads
old_laid nodes members heads each i d short = search (rules, length-append, range_old)

-- the clusters stay where nodes and weights are appended
clusters_stay : (nodes members weights more : List ℕ) (heads : List ClusterHead) → length weights ≡ length nodes
    → All (IsLaid nodes) heads
    → clusters_over (nodes ++ members) (weights ++ more) heads ≡ clusters_over nodes weights heads
clusters_stay nodes members weights more [] count each = refl
clusters_stay nodes members weights more (h ∷ hs) count each =
    let laid : IsLaid nodes h = each 0 h (omega arith) in
    rw (
      range_old nodes members h.start h.end laid.order laid.within,
      range_old weights more h.start h.end laid.order (omega (arith, laid.within, count)),
      clusters_stay nodes members weights more hs count (λ i d short. each (suc i) d (omega arith)),
    ) refl

-- ---- a cluster of a cover more

-- its leader is a node
pub leader_below : {network : Network} {table : DistanceTable} {made : Cluster} → AreDistancesOf network table
    → IsSpanned network made → AreNodes made.members → made.first < table.nodes
leader_below {made} belongs spanned sound = grind (arith, below-has)

module _ {network : Network} (made : Cluster) {old : ClusterLists} (new : ClusterLists) {start end depth : ℕ}
    (laid : AreLaid old) (nodes_now : new.nodes.items ≡ old.nodes.items ++ made.members.members)
    (heads_now : new.heads.items ≡ old.heads.items ++ record {
      leader = made.first;
      phase = made.phase;
      depth = depth;
      start = start;
      end = end;
    } ∷ [])
    (begins : start ≡ length old.nodes.items) (ends : end ≡ length new.nodes.items)
    (is : AreWeightsWritten network made.members.members made.first old.weights.items new.weights.items depth) where
  abbrev pushed_head : ClusterHead
  pushed_head = record { leader = made.first; phase = made.phase; depth = depth; start = start; end = end }

  long : length new.nodes.items ≡ length old.nodes.items + length made.members.members
  long = ap (length {A = ℕ}) nodes_now ∙ length-append old.nodes.items made.members.members

  here : slice_range new.nodes.items start end ≡ made.members.members
  here = search (rules, range_new)

  beside : slice_range new.weights.items start end ≡ is.weights
  beside = grind (arith, long, length-append, range_new)

  pub made_laid : IsAscending made.members.members → AreLaid new
  made_laid ascending = record {
    count = omega (
      arith,
      ap (length {A = ℕ}) is.appended,
      length-append old.weights.items is.weights,
      long,
      laid.count,
      is.sound.count,
    );
    each = rw heads_now
        (All-push (IsLaid new.nodes.items) old.heads.items pushed_head
        (rw nodes_now (old_laid old.nodes.items made.members.members old.heads.items laid.each))
        (record {
          order = omega (arith, begins, ends, long);
          within = omega (arith, ends);
          ascending = rw here ascending;
        }));
  }

  pub made_pushed : IsPushed network made old new
  made_pushed = grind (
    arith,
    here,
    beside,
    row_is made refl is,
    map_push (cluster_under new.nodes.items new.weights.items) old.heads.items pushed_head,
    clusters_stay old.nodes.items made.members.members old.weights.items is.weights old.heads.items laid.count
        laid.each,
  )

-- ---- the cluster of all nodes

module _ {table : DistanceTable} (metric : IsMetric table) (lists : ClusterLists) {depth end : ℕ}
    (heads_now : lists.heads.items ≡ record { leader = 0; phase = 0; depth = depth; start = 0; end = end } ∷ [])
    (all : lists.nodes.items ≡ centres table.nodes) (row : IsRowOf table 0 lists.weights.items)
    (ends : end ≡ length lists.nodes.items) (bound : All (λ x. x ≤ depth) lists.weights.items)
    (attained : 0 < length lists.weights.items → Contains lists.weights.items depth) where
  count : length lists.weights.items ≡ length lists.nodes.items
  count = row.count ∙ sym (ap (length {A = ℕ}) all ∙ length-centres table.nodes)

  whole_range : (xs : List ℕ) → length xs ≡ end → slice_range xs 0 end ≡ xs
  whole_range xs same = take_all (end - 0) xs (omega arith)

  pub whole_made : AreLaid lists × IsWholeAlone table (clusters_of_lists lists)
  whole_made = grind (
    arith,
    count,
    ascending-passing,
    All-cons (IsLaid lists.nodes.items) (record { leader = 0; phase = 0; depth = depth; start = 0; end = end }),
    whole_range lists.nodes.items (sym ends),
    All-nil (IsLaid lists.nodes.items),
    whole_range lists.weights.items (omega (arith, count, ends)),
    whole_is metric all row bound attained,
  )
