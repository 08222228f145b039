-- Few clusters of a plan overlap: each node reads no more clusters of a level than the level has phases.
use Rattle.std.proofs.Common.{◌≡◌, ℕ, suc, ◌+◌, ◌*◌, ◌^◌, ◌<◌, ◌≤◌, Bool, cond, List, [], ◌∷◌, length, map, get_or, refl, sym, ◌∙◌, ap, subst, inl, inr, arith, add-zero, zero-add}
use Rattle.std.specs.List.{count_by, sum_by}
use Rattle.std.proofs.Math.Nat.{pow-le-pow_left}
use Rattle.std.proofs.lemmas.Bool.{cases_lt}
use Rattle.std.proofs.lemmas.List.{get_or-map, get_or_past, length-map}
use Rattle.node_set.specs.SetLaws.{length-cond}
use Rattle.std.proofs.lemmas.List.Sums.{sum_by-cons}
use Rattle.net_graph.specs.Network.{Network, IsNetwork}
use Rattle.node_set.specs.Ascending.{has, sift}
use Rattle.node_set.specs.Balls.{GrownCluster, centres}
use Rattle.node_set.specs.BallLaws.{get_or-map_centres, length-map_centres}
use Rattle.distances.specs.Table.{IsMetric, ball_of}
use Rattle.coarse_cover.specs.Coarsening.{CoversAreSparse, all_clusters}
use Rattle.coarse_cover.specs.CoverLaws.{cluster_list_nodes, count_lists}
use Rattle.coarse_cover.specs.Covers.{cluster_list}
use Rattle.coarse_cover.specs.declared.cover.Cluster.{Cluster}
use Rattle.region_plan.specs.Matched.{HasFewReaders}
use Rattle.region_plan.specs.Meanings.{AreClustersOf, IsLevelOf, IsPlanOf}
use Rattle.region_plan.specs.Measures.{degree_in, degree_of}
use Rattle.region_plan.specs.Plan.{PlanCluster, PlanData, cluster_in, level_at, levels_of, no_level, nodes_of, readers}
use Rattle.region_plan.specs.Regions.{balls_of, clusters_with, regions_of}
use Rattle.region_plan.specs.declared.covering.Covering.TheVariants.{Phased}
use Rattle.region_plan.proofs.Measuring.{greatest_in}
use Rattle.region_plan.proofs.Spanning.{centred}

-- how many of the lists have v
abbrev have : ℕ → List (List ℕ) → ℕ
have v lists = sum_by (λ m. cond (has v m) 1 0) lists

abbrev pub nodes_in : List PlanCluster → List (List ℕ)
nodes_in clusters = map (λ (c : PlanCluster). c.members) clusters

-- as many numbers pass as clusters have v
sifted : (v : ℕ) (test : ℕ → Bool) (from : ℕ) (clusters : List PlanCluster)
    → ((j : ℕ) → j < length clusters → test (from + j) ≡ has v (cluster_in clusters j).members)
    → length (sift test from (length clusters)) ≡ have v (nodes_in clusters)
sifted v test from [] same = refl
sifted v test from (c ∷ cs) same =
    length-cond (test from) from (sift test (suc from) (length cs))
    ∙ ap (λ b. cond b 1 0 + length (sift test (suc from) (length cs)))
    (ap test (sym (add-zero from)) ∙ same 0 (omega arith))
    ∙ ap (λ n. cond (has v c.members) 1 0 + n) (sifted v test (suc from) cs (λ j h.
    ap test (next from j) ∙ same (suc j) (omega arith)))
    ∙ sym (sum_by-cons (λ (m : List ℕ). cond (has v m) 1 0) c.members (nodes_in cs))
  where
    next : (i j : ℕ) → suc i + j ≡ i + suc j
    next i j = omega arith

pub same_nodes : (network : Network) (made : List Cluster) (clusters : List PlanCluster)
    → AreClustersOf network made clusters → nodes_in clusters ≡ map (λ (c : Cluster). c.members.members) made
same_nodes network [] [] are = refl
same_nodes network [] (e ∷ es) are = absurd are
same_nodes network (c ∷ cs) [] are = absurd are
same_nodes network (c ∷ cs) (e ∷ es) are = grind (arith, same_nodes network cs es are.1, nodes_in)

read_count : (network : Network) (n v : ℕ) (regions : List (List GrownCluster)) (clusters : List PlanCluster)
    → AreClustersOf network (cluster_list n 0 regions) clusters
    → length (clusters_with clusters v) ≡ count_by (λ c. has v c.members) (all_clusters regions)
read_count network n v regions clusters are =
    sifted v (λ c. has v (cluster_in clusters c).members) 0 clusters
    (λ j h. ap (λ i. has v (cluster_in clusters i).members) (zero-add j))
    ∙ ap (have v) (same_nodes network (cluster_list n 0 regions) clusters are ∙ cluster_list_nodes n 0 regions)
    ∙ sym (count_lists (λ (c : GrownCluster). c.members) v (all_clusters regions))

-- a level at which a node reads as many clusters as the degree
record IsAttained (plan : PlanData) : Type 0 where
  level : ℕ
  node : ℕ
  below : level < levels_of plan
  reads : length (readers plan level node) ≡ degree_of plan

attained : (plan : PlanData) → 1 ≤ levels_of plan
    → ((i : ℕ) → i < levels_of plan → 0 < length (level_at plan i).readers) → IsAttained plan
attained plan some wide =
    let top = greatest_in (map degree_in plan.levels) (omega (arith, length-map plan.levels degree_in)) in
    let below : top.at < levels_of plan = omega (arith, top.below, length-map plan.levels degree_in) in
    let rows = (level_at plan top.at).readers in
    let counts = length-map rows (length {A = ℕ}) in
    let row = greatest_in (map length rows) (omega (arith, counts, wide top.at below)) in
    record {
      level = top.at;
      node = row.at;
      below = below;
      reads = sym (get_or-map length rows row.at [] 0 (omega (arith, row.below, counts))) ∙ row.is
          ∙ sym (get_or-map degree_in plan.levels top.at no_level 0 below) ∙ top.is;
    }

module _ (sparse : CoversAreSparse) {network : Network} (sound : IsNetwork network) {k : ℕ} (low : 1 ≤ k)
    {plan : PlanData} (metric : IsMetric plan.distances) (is : IsPlanOf network k plan) where
  at_level : (i : ℕ) → (length (regions_of plan.distances (Phased k) i) ^ k ≤ k ^ k * nodes_of plan)
      × ((v : ℕ) → count_by (λ c. has v c.members) (all_clusters (regions_of plan.distances (Phased k) i))
      ≤ length (regions_of plan.distances (Phased k) i))
  at_level i =
      let here = sparse (balls_of plan.distances i) k low (centred metric is.distances sound i) in (
        subst (λ n. length (regions_of plan.distances (Phased k) i) ^ k ≤ k ^ k * n)
            (length-map_centres (λ u. ball_of plan.distances u (2 ^ i)) (nodes_of plan)) here.0,
        here.1,
      )

  phases_few : (i : ℕ) → i < levels_of plan → (level_at plan i).phases ^ k ≤ k ^ k * nodes_of plan
  phases_few i below = rw (is.each i below).phases (at_level i).0

  read_few : (i v : ℕ) → i < levels_of plan → length (readers plan i v) ≤ (level_at plan i).phases
  read_few i v below =
      let level : IsLevelOf network plan.distances (Phased k) i (level_at plan i) = is.each i below in
      let clusters = (level_at plan i).clusters in
      let rows : readers plan i v ≡ get_or (map (clusters_with clusters) (centres (nodes_of plan))) v [] =
      ap (λ (l : List (List ℕ)). get_or l v []) level.readers in
      elim (cases_lt v (nodes_of plan)) [
        | inl within ↦ omega (
          arith,
          ap length rows,
          ap length (get_or-map_centres (clusters_with clusters) (nodes_of plan) v [] within),
          read_count network (nodes_of plan) v (regions_of plan.distances (Phased k) i) clusters level.clusters,
          (at_level i).1 v,
          level.phases,
        )
        | inr past ↦ omega (
          arith,
          ap length rows,
          ap length (get_or_past (map (clusters_with clusters) (centres (nodes_of plan))) v []
              (omega (arith, length-map_centres (clusters_with clusters) (nodes_of plan)))),
        )
      ]

  wide : (i : ℕ) → i < levels_of plan → 0 < length (level_at plan i).readers
  wide i below = grind (arith, is.each i below, length-map_centres)

  pub few_readers : HasFewReaders plan
  few_readers = grind (arith, wide, read_few, phases_few, pow-le-pow_left, attained plan is.some wide)
