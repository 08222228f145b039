-- Laws of tables of distances and of balls, for proofs. Key laws, in words the public functions
-- `distances_are_one` and `members_of_a_ball`.
use Rattle.std.proofs.Common.{◌≡◌, ℕ, ◌+◌, ◌*◌, ◌/◌, ◌%◌, ◌<◌, ◌≤◌, true, List, length, sym, ◌∙◌, ap, subst, inl, inr, arith, false, leb-true, le-leb, drop, ◌-◌}
use Rattle.std.specs.Prelude.{◌↔◌, nat_le, slice_range, slice_index}
use Rattle.node_set.specs.Ascending.{has, IsAscending}
use Rattle.node_set.specs.SetLaws.{has-passing, passing_over, ascending-passing}
use Rattle.std.proofs.lemmas.List.{get_or_default, same_lists, length-drop, length-take, get_or-take, get_or-drop}
use Rattle.std.proofs.lemmas.Bool.{cases_lt}
use Rattle.std.proofs.lemmas.Nat.{div-add-mod', div_below, row_fits}
use Rattle.net_graph.specs.Trees.{AreDistancesFrom}
use Rattle.net_graph.specs.Walks.{IsLeastWeight, everywhere}
use Rattle.net_graph.specs.Network.{Network}
use Rattle.net_graph.specs.WalkLaws.{least_weight_one}
use Rattle.distances.specs.Table.{DistanceTable, dist, IsRowOf, AreDistancesOf, ball_of}

no_square : (n k : ℕ) → n ≡ 0 → k < n * n → ⊥
no_square n k none below = let h : k < 0 * 0 = subst (λ i. k < i * i) none below in omega arith

positive_side : (n k : ℕ) → k < n * n → 0 < n
positive_side n k below = elim (cases_lt 0 n) [
  | inl some ↦ some
  | inr none ↦ let zero_side : n ≡ 0 = omega arith in absurd (no_square n k zero_side below)
]

-- a network has one table of distances
pub one_table : (network : Network) (one two : DistanceTable) → AreDistancesOf network one
    → AreDistancesOf network two → one ≡ two
one_table network one two p q =
    ap (λ (n : ℕ). record { nodes = n; cells = one.cells }) nodes
    ∙ ap (λ (xs : List ℕ). record { nodes = two.nodes; cells = xs }) cells
  where
    nodes : one.nodes ≡ two.nodes
    nodes = p.nodes ∙ sym q.nodes

    count : length one.cells ≡ length two.cells
    count = p.count ∙ ap (λ n. n * n) nodes ∙ sym q.count

    at : (u v : ℕ) → u < one.nodes → v < one.nodes
        → slice_index one.cells (u * one.nodes + v) ≡ slice_index two.cells (u * one.nodes + v)
    at u v u_below v_below =
        least_weight_one network.edges everywhere u v (dist one u v) (dist two u v)
        (p.each u v u_below v_below)
        (q.each u v (omega (arith, nodes)) (omega (arith, nodes)))
        ∙ ap (λ n. slice_index two.cells (u * n + v)) (sym nodes)

    cells : one.cells ≡ two.cells
    cells = same_lists one.cells two.cells count (λ k d below.
        let small : k < one.nodes * one.nodes = omega (arith, p.count) in
        let some : 0 < one.nodes = positive_side one.nodes k small in
        get_or_default one.cells k d 0 below
        ∙ ap (λ i. slice_index one.cells i) (sym (div-add-mod' k one.nodes))
        ∙ at (k / one.nodes) (k % one.nodes) (div_below k one.nodes one.nodes some small)
        (omega arith)
        ∙ ap (λ i. slice_index two.cells i) (div-add-mod' k one.nodes)
        ∙ get_or_default two.cells k 0 d (omega (arith, count)))

-- ---- balls

-- a ball ascends
pub ball_ascends : (table : DistanceTable) (v radius : ℕ) → IsAscending (ball_of table v radius)
ball_ascends table v radius = ascending-passing (λ w. nat_le (dist table v w) radius) 0 table.nodes

-- a ball has the nodes within its radius
pub ball_members : (table : DistanceTable) (v radius w : ℕ)
    → (has w (ball_of table v radius) ≡ true) ↔ ((w < table.nodes) × (dist table v w ≤ radius))
ball_members table v radius w = (there, back)
  where
    there : has w (ball_of table v radius) ≡ true → (w < table.nodes) × (dist table v w ≤ radius)
    there h = elim (cases_lt w table.nodes) [
      | inl below ↦ (
        below,
        leb-true (dist table v w) radius
            (sym (has-passing (λ x. nat_le (dist table v x) radius) w 0 table.nodes (omega arith)
            (omega arith)) ∙ h),
      )
      | inr past ↦ absurd (let both : false ≡ true =
          sym (passing_over (λ x. nat_le (dist table v x) radius) w 0 table.nodes (omega arith)) ∙ h
          in cc)
    ]

    back : (w < table.nodes) × (dist table v w ≤ radius) → has w (ball_of table v radius) ≡ true
    back (below, close) =
        has-passing (λ x. nat_le (dist table v x) radius) w 0 table.nodes (omega arith)
        (omega arith)
        ∙ le-leb (dist table v w) radius close

-- ---- rows

-- a row of a network's table has the distances from its node
pub row_has_distances : (network : Network) (table : DistanceTable) (u : ℕ) (row : List ℕ)
    → AreDistancesOf network table
    → u < table.nodes → IsRowOf table u row → AreDistancesFrom network u row
row_has_distances network table u row distances below is_row = record {
  count = is_row.count ∙ distances.nodes;
  each = λ v v_below.
      let v_here : v < table.nodes = omega (arith, distances.nodes) in
      subst (λ w. IsLeastWeight network.edges everywhere u v w) (sym (is_row.each v v_here))
      (distances.each u v below v_here);
}

-- a part of a table of n columns is a row of it
pub part_is_row : (n u : ℕ) (cells : List ℕ) → length cells ≡ n * n → u < n
    → IsRowOf (record { nodes = n; cells = cells }) u (slice_range cells (u * n) ((u + 1) * n))
part_is_row n u cells count below = record {
  count = omega (
    arith,
    length-take ((u + 1) * n - u * n) (drop (u * n) cells),
    length-drop (u * n) cells,
    count,
    row_fits u n n n below (omega arith),
  );
  each = λ v v_below.
      get_or-take ((u + 1) * n - u * n) (drop (u * n) cells) v 0 (omega arith)
      ∙ get_or-drop (u * n) cells v 0;
}
