-- Walks inside unions of balls: a least walk from a centre stays in its ball, so a cluster is spanned from its leader.
use Rattle.std.proofs.Common.{rules, ◌≡◌, ℕ, zero, suc, ◌+◌, ◌*◌, ◌<◌, ◌≤◌, Bool, true, false, ◌||◌, List, [], ◌∷◌, map, refl, sym, ◌∙◌, ap, subst, arith, eq-eqb}
use Rattle.std.specs.Prelude.{All}
use Rattle.std.proofs.lemmas.Bool.{cases_lt, eqb-true, false≢true, or_cases}
use Rattle.std.proofs.lemmas.List.{get_or_past}
use Rattle.net_graph.specs.declared.edge.Edge.{Edge}
use Rattle.net_graph.specs.Walks.{Joins, Step, IsWalk, weight_of, everywhere}
use Rattle.net_graph.specs.Network.{Network, IsEdge}
use Rattle.net_graph.specs.WalkLaws.{IsNoHeavier, join_edge, walk-append, weight_of-append, walk_turned, walk_widened}
use Rattle.node_set.specs.Ascending.{has}
use Rattle.node_set.specs.SetLaws.{share_gives}
use Rattle.distances.specs.Table.{DistanceTable, AreDistancesOf, IsMetric, dist, ball_of}
use Rattle.distances.specs.TableLaws.{ball_members}
use Rattle.node_set.specs.BallLaws.{next_growth_means, length-map_centres, get_or-map_centres, union_has, union_from, union_more, touches_own, growth_first}
use Rattle.cluster_tree.specs.Tree.{within}
use Rattle.node_set.specs.Balls.{ball, union_of, growth, centres}

-- ---- walks that aren't heavier

near_back : {edges : List Edge} {inside : ℕ → Bool} {u v w : ℕ} → IsNoHeavier edges inside u v w
    → IsNoHeavier edges inside v u w
near_back {edges} {inside} {u} {v} near = search (rules, walk_turned)

near_on : {edges : List Edge} {inside : ℕ → Bool} {u v x a b : ℕ} → IsNoHeavier edges inside u v a
    → IsNoHeavier edges inside v x b → IsNoHeavier edges inside u x (a + b)
near_on {edges} {inside} {u} {v} {x} here there = search (rules, walk-append, weight_of-append)

pub near_more : {edges : List Edge} {inside : ℕ → Bool} {u v a : ℕ} (b : ℕ) → a ≤ b → IsNoHeavier edges inside u v a
    → IsNoHeavier edges inside u v b
near_more b less near =
    record { steps = near.steps; walk = near.walk; light = omega (arith, near.light) }

module _ {network : Network} {table : DistanceTable} (metric : IsMetric table) (least : AreDistancesOf network table)
    (limits : All (IsEdge network.nodes) network.edges) where
  -- ---- a least walk from a centre stays in the ball

  hop : (u v w : ℕ) → u < table.nodes → v < table.nodes → Joins network.edges u v w → dist table u v ≤ w
  hop u v w hu hv joined =
      let step : Step = record { node = v; weight = w } in
      let light : dist table u v ≤ weight_of (step ∷ []) =
      (least.each u v hu hv).least (step ∷ []) (refl, joined, (refl, refl)) in
      omega (arith, light)

  stays : (inside : ℕ → Bool) (c r : ℕ) → c < table.nodes
      → ((y : ℕ) → y < table.nodes → dist table c y ≤ r → inside y ≡ true)
      → (steps : List Step) (a u x : ℕ) → u < table.nodes → dist table c u ≤ a
      → IsWalk network.edges everywhere u steps x → a + weight_of steps ≤ r
      → IsWalk network.edges inside u steps x
  stays inside c r hc holds [] a u x hu far walk light = (holds u hu (omega arith), walk.1)
  stays inside c r hc holds (step ∷ steps) a u x hu far walk light =
      let ends = join_edge network.nodes network.edges u step.node step.weight limits walk.1 in
      let below : step.node < table.nodes = omega (arith, ends.1, least.nodes) in
      let near : dist table u step.node ≤ step.weight = hop u step.node step.weight hu below walk.1 in
      let on : dist table c step.node ≤ dist table c u + dist table u step.node =
      metric.triangle c u step.node hc hu below in (
        holds u hu (omega arith),
        walk.1,
        stays inside c r hc holds steps (a + step.weight) step.node x below (omega arith) walk.2 (omega arith),
      )

  near_centre : (inside : ℕ → Bool) (c r x : ℕ) → c < table.nodes → x < table.nodes → dist table c x ≤ r
      → ((y : ℕ) → y < table.nodes → dist table c y ≤ r → inside y ≡ true) → IsNoHeavier network.edges inside c x r
  near_centre inside c r x hc hx far holds =
      let walk = (least.each c x hc hx).attained in
      grind (
        arith,
        stays inside c r hc holds walk.steps 0 c x hc (omega (arith, metric.zero c hc)) walk.walk
            (omega (arith, walk.sum)),
      )

  -- ---- the balls of a radius

  module _ (r : ℕ) where
    abbrev pub balls : List (List ℕ)
    balls = map (λ v. ball_of table v r) (centres table.nodes)

    ball_is : (v : ℕ) → v < table.nodes → ball balls v ≡ ball_of table v r
    ball_is v h = get_or-map_centres (λ u. ball_of table u r) table.nodes v [] h

    pub in_ball : (v x : ℕ) → has x (ball balls v) ≡ true → (v < table.nodes) × (x < table.nodes) × (dist table v x ≤ r)
    in_ball v x h = grind (arith, cases_lt, ball_members, ball_is, length-map_centres, get_or_past, false≢true)

    pub to_ball : (v x : ℕ) → v < table.nodes → x < table.nodes → dist table v x ≤ r → has x (ball balls v) ≡ true
    to_ball v x hv hx far = ap (has x) (ball_is v hv) ∙ (ball_members table v r x).1 (hx, far)

    pub own_ball : (v : ℕ) → v < table.nodes → has v (ball balls v) ≡ true
    own_ball v h = to_ball v v h h (omega (arith, metric.zero v h))

    -- ---- growth by growth

    module _ (waiting : List ℕ) (a : ℕ) (below : a < table.nodes) (waits : has a waiting ≡ true) where
      only : (v : ℕ) → has v (a ∷ []) ≡ true → a ≡ v
      only v h = search (rules, or_cases, eqb-true, false≢true)

      taken : (j v : ℕ) → has v (growth balls waiting a j) ≡ true → (v < table.nodes) × (has v waiting ≡ true)
      taken zero v h = grind (arith, growth_first, only)
      taken (suc j) v h =
          let both = (next_growth_means balls waiting a j v).0 h in
          let shared = share_gives (ball balls v) (union_of balls (growth balls waiting a j)) both.1 in
          ((in_ball v shared.0 shared.1).0, both.0)

      grows : (j v : ℕ) → has v (growth balls waiting a j) ≡ true → has v (growth balls waiting a (suc j)) ≡ true
      grows j v h = grind (arith, taken, next_growth_means, own_ball, touches_own)

      pub growth_leads : (j : ℕ) → has a (growth balls waiting a j) ≡ true
      growth_leads zero = ap (has a) (growth_first balls waiting a) ∙ ap (λ b. b || false) (eq-eqb a a refl)
      growth_leads (suc j) = grows j a (growth_leads j)

      -- within a union, a ball of it
      near_in : (j v x : ℕ) → has v (growth balls waiting a j) ≡ true → has x (ball balls v) ≡ true
          → IsNoHeavier network.edges (within (union_of balls (growth balls waiting a j))) v x r
      near_in j v x h member = grind (arith, in_ball, to_ball, union_has, near_centre)

      -- each node of a union is near the leader, inside the union
      pub near_leader : (j x : ℕ) → has x (union_of balls (growth balls waiting a j)) ≡ true
          → IsNoHeavier network.edges (within (union_of balls (growth balls waiting a j))) a x ((2 * j + 1) * r)
      near_leader zero x h =
          let from = union_from balls x (growth balls waiting a 0) h in
          let same : a ≡ from.0 = only from.0 (ap (has from.0) (sym (growth_first balls waiting a)) ∙ from.1) in
          near_more ((2 * 0 + 1) * r) (omega arith) (subst
          (λ v. IsNoHeavier network.edges (within (union_of balls (growth balls waiting a 0))) v x r) (sym same)
          (near_in 0 from.0 x from.1 from.2))
      near_leader (suc j) x h =
          let from = union_from balls x (growth balls waiting a (suc j)) h in
          let both = (next_growth_means balls waiting a j from.0).0 from.1 in
          let shared = share_gives (ball balls from.0) (union_of balls (growth balls waiting a j)) both.1 in
          let before = near_leader j shared.0 shared.2 in
          let wider : IsNoHeavier network.edges (within (union_of balls (growth balls waiting a (suc j)))) a shared.0
          ((2 * j + 1) * r) = record {
            steps = before.steps;
            walk = walk_widened network.nodes network.edges (within (union_of balls (growth balls waiting a j)))
                (within (union_of balls (growth balls waiting a (suc j)))) limits
                (λ y hy inside. union_more balls y (growth balls waiting a j) (growth balls waiting a (suc j)) (grows j)
                inside)
                a before.steps shared.0 (omega (arith, least.nodes)) before.walk;
            light = before.light;
          } in
          near_more ((2 * suc j + 1) * r) (more j r) (near_on wider
          (near_on (near_back (near_in (suc j) from.0 shared.0 from.1 shared.1))
          (near_in (suc j) from.0 x from.1 from.2)))
        where
          more : (j r : ℕ) → (2 * j + 1) * r + (r + r) ≤ (2 * suc j + 1) * r
          more j r = omega arith
