-- The rows of a flat array of arcs, and the edges that they stand for.
use Rattle.std.proofs.Common.{rules, ◌≡◌, ℕ, zero, suc, ◌+◌, ◌<◌, List, ◌++◌, length, get_or, sym, ◌∙◌, ap, subst, inl, inr, arith, map}
use Rattle.std.specs.Prelude.{Contains, All, slice_range}
use Rattle.std.proofs.lemmas.List.{length-map, get_or-map, get_or_read}
use Rattle.std.proofs.lemmas.List.Elements.{All-contains, All-take, All-drop, Contains-append_left, Contains-append_right, Contains-append_cases, Contains-get_or}
use Rattle.std.proofs.lemmas.Bool.{cases_lt}
use Rattle.net_graph.specs.declared.edge.Edge.{Edge}
use Rattle.net_graph.specs.declared.neighbours.Arc.{Arc}
use Rattle.net_graph.specs.Walks.{Joins, make_edge}
use Rattle.net_graph.specs.Network.{Network, IsInLimits}
use Rattle.net_graph.specs.Layout.{make_arc, edge_from, row, edges_from, IsArc, IsLaidOut, AreArcsOf}

edge_of_arc : (k u v w : ℕ) (arc : Arc) → edge_from k arc ≡ make_edge u v w → (k ≡ u) × (arc ≡ make_arc v w)
edge_of_arc k u v w arc same = grind arith

mapped : (k v w : ℕ) (arcs : List Arc) → Contains arcs (make_arc v w)
    → Contains (map (edge_from k) arcs) (make_edge k v w)
mapped k v w arcs (i, below, here) = (
  i,
  omega (arith, length-map arcs (edge_from k)),
  get_or-map (edge_from k) arcs i (make_arc v w) (make_edge k v w) below ∙ ap (edge_from k) here,
)

unmapped : (k u v w : ℕ) (arcs : List Arc) → Contains (map (edge_from k) arcs) (make_edge u v w) → (k ≡ u)
    × Contains arcs (make_arc v w)
unmapped k u v w arcs (i, below, here) =
    let short : i < length arcs = omega (arith, length-map arcs (edge_from k)) in
    let same = edge_of_arc k u v w (get_or arcs i (make_arc v w))
    (sym (get_or-map (edge_from k) arcs i (make_arc v w) (make_edge u v w) short) ∙ here) in
    (same.0, (i, short, same.1))

pub edges_have_row : (starts : List ℕ) (arcs : List Arc) (n u v w : ℕ) → u < n
    → Contains (row starts arcs u) (make_arc v w) → Contains (edges_from starts arcs n) (make_edge u v w)
unfolding edges_from
edges_have_row starts arcs zero u v w below has = absurd (omega arith)
edges_have_row starts arcs (suc n) u v w below has =
    elim (cases_lt u n) [
      | inl less ↦ Contains-append_left (edges_from starts arcs n) (map (edge_from n) (row starts arcs n))
          (make_edge u v w)
          (edges_have_row starts arcs n u v w less has)
      | inr more ↦
          let same : u ≡ n = omega arith in
          subst (λ k. Contains (edges_from starts arcs n ++ map (edge_from k) (row starts arcs k)) (make_edge u v w))
          same
          (Contains-append_right (edges_from starts arcs n) (map (edge_from u) (row starts arcs u)) (make_edge u v w)
          (mapped u v w (row starts arcs u) has))
    ]

pub row_has_edge : (starts : List ℕ) (arcs : List Arc) (n u v w : ℕ)
    → Contains (edges_from starts arcs n) (make_edge u v w) → (u < n) × Contains (row starts arcs u) (make_arc v w)
unfolding edges_from
row_has_edge starts arcs zero u v w (i, below, here) = absurd (omega arith)
row_has_edge starts arcs (suc n) u v w has =
    elim (Contains-append_cases (edges_from starts arcs n) (map (edge_from n) (row starts arcs n))
    (make_edge u v w) has) [
      | inl before ↦ let r = row_has_edge starts arcs n u v w before in (omega (arith, r.0), r.1)
      | inr here ↦ let r = unmapped n u v w (row starts arcs n) here in
          (omega (arith, r.0), subst (λ k. Contains (row starts arcs k) (make_arc v w)) r.0 r.1)
    ]

row_limits : (n : ℕ) (starts : List ℕ) (arcs : List Arc) (u : ℕ) → All (IsArc n) arcs
    → All (IsArc n) (row starts arcs u)
row_limits n starts arcs u all = search (rules, All-take, All-drop)

pub laid_out_limits : {n : ℕ} {starts : List ℕ} {arcs : List Arc} → IsLaidOut n starts arcs
    → IsInLimits (record { nodes = n; edges = edges_from starts arcs n })
laid_out_limits {n} {starts} {arcs} laid = record {
  positive = laid.positive;
  few = laid.few;
  edges = λ k d below.
      let e : Edge = get_or (edges_from starts arcs n) k d in
      let r = row_has_edge starts arcs n e.a e.b e.weight (Contains-get_or (edges_from starts arcs n) k d below) in
      let arc = All-contains (IsArc n) (row starts arcs e.a) (make_arc e.b e.weight)
      (row_limits n starts arcs e.a laid.limits) r.1 in
      record { a_below = r.0; b_below = arc.below; positive = arc.positive; light = arc.light };
}

whole_row : {n : ℕ} {starts : List ℕ} {arcs : List Arc} (u : ℕ) → IsLaidOut n starts arcs → (v w : ℕ)
    → Joins (edges_from starts arcs n) u v w → Contains (row starts arcs u) (make_arc v w)
whole_row {n} {starts} {arcs} u laid v w (inl h) = (row_has_edge starts arcs n u v w h).1
whole_row {n} {starts} {arcs} u laid v w (inr h) = grind (arith, row_has_edge starts arcs n v u w h)

pub row_arcs : {n : ℕ} {starts : List ℕ} {arcs : List Arc} (u : ℕ) → IsLaidOut n starts arcs → u < n
    → AreArcsOf n (edges_from starts arcs n) u (row starts arcs u)
row_arcs {n} {starts} {arcs} u laid below =
    grind (arith, edges_have_row, whole_row u laid, row_limits n starts arcs u laid.limits)

-- the arcs of a node, as they are read
pub read_row : {n : ℕ} {starts : List ℕ} {arcs : List Arc} {network : Network} (u : ℕ) {first next : ℕ}
    {list : List Arc}
    → IsLaidOut n starts arcs → record { nodes = n; edges = edges_from starts arcs n } ≡ network → u < network.nodes
    → first ≡ get_or starts u first → next ≡ get_or starts (u + 1) next → list ≡ arcs
    → AreArcsOf network.nodes network.edges u (slice_range list first next)
read_row {n} {starts} u {first} {next} laid view below at_first at_next whole =
    let short : u < n = rw (← view) at below in
    let begins : first ≡ get_or starts u 0 = get_or_read starts u first (omega (arith, laid.count)) at_first 0 in
    let ends : next ≡ get_or starts (u + 1) 0 = get_or_read starts (u + 1) next (omega (arith, laid.count)) at_next 0 in
    rw (← view, begins, ends, whole) (row_arcs u laid short)
