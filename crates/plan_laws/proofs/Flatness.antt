-- A network has one flat plan.
use Rattle.std.proofs.Common.{◌≡◌, List, length, get_or, sym, ◌∙◌, subst, arith}
use Rattle.std.proofs.lemmas.List.{get_or_default, same_lists}
use Rattle.net_graph.specs.Network.{Network}
use Rattle.distances.specs.Table.{DistanceTable}
use Rattle.distances.specs.TableLaws.{one_table}
use Rattle.cluster_tree.specs.Tree.{WeighedCluster, IsDepth}
use Rattle.region_plan.specs.Plan.{PlanCluster, Level, PlanData, level_at, no_level, cluster_in, no_cluster}
use Rattle.region_plan.specs.Meanings.{as_tree}
use Rattle.region_plan.specs.MeaningLaws.{depths_are_one, tops_are_one}
use Rattle.region_plan.specs.Flat.{IsWhole, IsFlatLevel, IsFlat}

same_single : (xs ys : List PlanCluster) → length xs ≡ 1 → length ys ≡ 1 → cluster_in xs 0 ≡ cluster_in ys 0 → xs ≡ ys
same_single xs ys left right same = same_lists xs ys (left ∙ sym right) (λ i d h.
    let zero_is : 0 ≡ i = omega (arith, left) in
    subst (λ j. get_or xs j d ≡ get_or ys j d) zero_is
    (sym (get_or_default xs 0 no_cluster d (omega (arith, left))) ∙ same
    ∙ get_or_default ys 0 no_cluster d (omega (arith, right))))

whole_is_one : (table : DistanceTable) (c d : PlanCluster) → IsWhole table c → IsWhole table d → c ≡ d
whole_is_one table c d one two =
    let leader : c.leader ≡ d.leader = one.leader ∙ sym two.leader in
    let phase : c.phase ≡ d.phase = one.phase ∙ sym two.phase in
    let members : c.members ≡ d.members = one.members ∙ sym two.members in
    let weights : c.weights ≡ d.weights = one.weights ∙ sym two.weights in
    let trees : ◌≡◌ {A = WeighedCluster} (record { leader = c.leader; members = c.members; weights = c.weights })
    (record { leader = d.leader; members = d.members; weights = d.weights }) = cc in
    let depth : c.depth ≡ d.depth = depths_are_one (as_tree d) c.depth d.depth
    (subst (λ (x : WeighedCluster). IsDepth x c.depth) trees one.depth) two.depth in
    let parts : ◌≡◌ {A = PlanCluster}
    (record { leader = c.leader; phase = c.phase; members = c.members; weights = c.weights; depth = c.depth })
    (record { leader = d.leader; phase = d.phase; members = d.members; weights = d.weights; depth = d.depth }) = cc in
    parts

flat_levels_are_one : (table : DistanceTable) (x y : Level) → IsFlatLevel table x → IsFlatLevel table y → x ≡ y
flat_levels_are_one table x y one two =
    let exponent : x.exponent ≡ y.exponent = tops_are_one table x.exponent y.exponent one.exponent two.exponent in
    let threshold : x.threshold ≡ y.threshold = one.threshold ∙ sym two.threshold in
    let phases : x.phases ≡ y.phases = one.phases ∙ sym two.phases in
    let clusters : x.clusters ≡ y.clusters = same_single x.clusters y.clusters one.one two.one
    (whole_is_one table (cluster_in x.clusters 0) (cluster_in y.clusters 0) one.whole two.whole) in
    let homes : x.homes ≡ y.homes = one.homes ∙ sym two.homes in
    let readers : x.readers ≡ y.readers = one.readers ∙ sym two.readers in
    let parts : ◌≡◌ {A = Level}
    (record {
      exponent = x.exponent;
      threshold = x.threshold;
      phases = x.phases;
      clusters = x.clusters;
      homes = x.homes;
      readers = x.readers;
    })
    (record {
      exponent = y.exponent;
      threshold = y.threshold;
      phases = y.phases;
      clusters = y.clusters;
      homes = y.homes;
      readers = y.readers;
    }) = cc in
    parts

pub flat_is_one : (network : Network) (one two : PlanData) → IsFlat network one → IsFlat network two → one ≡ two
flat_is_one network one two p q =
    let k : one.k ≡ two.k = p.trade_off ∙ sym q.trade_off in
    let reach : one.reach ≡ two.reach = p.reach ∙ sym q.reach in
    let tables : one.distances ≡ two.distances =
    one_table network one.distances two.distances p.distances q.distances in
    let here : level_at one 0 ≡ level_at two 0 = flat_levels_are_one two.distances (level_at one 0) (level_at two 0)
    (subst (λ (t : DistanceTable). IsFlatLevel t (level_at one 0)) tables p.level) q.level in
    let levels : one.levels ≡ two.levels = same_lists one.levels two.levels (p.one ∙ sym q.one) (λ i d h.
    let zero_is : 0 ≡ i = omega (arith, p.one) in
    subst (λ j. get_or one.levels j d ≡ get_or two.levels j d) zero_is
    (sym (get_or_default one.levels 0 no_level d (omega (arith, p.one))) ∙ here
    ∙ get_or_default two.levels 0 no_level d (omega (arith, q.one)))) in
    let parts : ◌≡◌ {A = PlanData}
    (record { k = one.k; reach = one.reach; distances = one.distances; levels = one.levels })
    (record { k = two.k; reach = two.reach; distances = two.distances; levels = two.levels }) = cc in
    parts
