-- Rows of arcs that lie one behind another are a network with the walks of the edges.
use Rattle.std.proofs.Common.{ℕ, ◌+◌, ◌≤◌, List, sym, inl, inr, arith}
use Rattle.std.specs.Prelude.{All}
use Rattle.net_graph.specs.declared.edge.Edge.{Edge}
use Rattle.net_graph.specs.declared.edge.TheConstants.{MAX_NODES}
use Rattle.net_graph.specs.declared.neighbours.Arc.{Arc}
use Rattle.net_graph.specs.Walks.{Joins}
use Rattle.net_graph.specs.Network.{IsEdge, SameJoins, SameWalks}
use Rattle.net_graph.specs.Layout.{edges_from, IsArc, IsLaidOut}
use Rattle.net_graph.specs.Notes.{JoinsOther, AreRows, notes_of, row_of}
use Rattle.net_graph.proofs.Noting.{row_is}
use Rattle.net_graph.specs.Starts.{AreRowsOf}
use Rattle.net_graph.proofs.Rows.{edges_have_row, row_has_edge}
use Rattle.net_graph.specs.WalkLaws.{join_edge, join_turned}
use Rattle.net_graph.proofs.Replacing.{same_walks}

-- the rows of all nodes, once each has its arcs in its places
pub rows_made : (n : ℕ) (edges : List Edge) (starts : List ℕ) (arcs : List Arc)
    → AreRowsOf n (λ v. row_of v (notes_of edges)) starts arcs → All (IsArc n) arcs
    → AreRows n (JoinsOther edges) starts arcs
rows_made n edges starts arcs rows limits = record {
  count = rows.count;
  ordered = rows.order;
  within = λ k below. rows.within (k + 1) (omega (arith, below));
  are = λ k below. rw (rows.each k below) (row_is edges k);
  limits = limits;
}

module _ (n : ℕ) (edges : List Edge) (all : All (IsEdge n) edges) {starts : List ℕ} {arcs : List Arc}
    (rows : AreRows n (JoinsOther edges) starts arcs) where
  pub all_rows : 1 ≤ n → n ≤ MAX_NODES → IsLaidOut n starts arcs
  all_rows positive few = record {
    positive = positive;
    few = few;
    count = rows.count;
    ordered = rows.ordered;
    within = rows.within;
    limits = rows.limits;
    turned = λ u v w below has.
        let joined = (rows.are u below v w).0 has in
        let v_below = (join_edge n edges u v w all joined.1).1 in
        (rows.are v v_below u w).1 ((λ same. joined.0 (sym same)), join_turned edges u v w joined.1);
  }

  pub rows_same_joins : SameJoins edges (edges_from starts arcs n)
  rows_same_joins u v w = (into, back)
    where
      into : Joins (edges_from starts arcs n) u v w → JoinsOther edges u v w
      into (inl h) = let r = row_has_edge starts arcs n u v w h in (rows.are u r.0 v w).0 r.1
      into (inr h) =
          let r = row_has_edge starts arcs n v u w h in
          let joined = (rows.are v r.0 u w).0 r.1 in
          ((λ same. joined.0 (sym same)), join_turned edges v u w joined.1)

      back : JoinsOther edges u v w → Joins (edges_from starts arcs n) u v w
      back joined =
          let below = (join_edge n edges u v w all joined.1).0 in
          inl (edges_have_row starts arcs n u v w below ((rows.are u below v w).1 joined))

  pub rows_same_walks : SameWalks edges (edges_from starts arcs n)
  rows_same_walks = same_walks edges (edges_from starts arcs n)
      (λ u v w other joined. (w, (rows_same_joins u v w).1 (other, joined), omega arith))
      (λ u v w other joined. (w, ((rows_same_joins u v w).0 joined).1, omega arith))
