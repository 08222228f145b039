-- The table that elimination begins with, and what it ends with.
use Rattle.std.proofs.Common.{rules, ◌≡◌, ℕ, ◌+◌, ◌*◌, ◌<◌, ◌≤◌, List, length, replicate, take, ◌++◌, refl, sym, ◌∙◌, ap, subst₂, inl, inr, arith}
use Rattle.std.proofs.lemmas.List.{get_or-replicate, length-replicate, take_at}
use Rattle.std.proofs.lemmas.List.Elements.{All-contains, All-replicate}
use Rattle.std.proofs.lemmas.Nat.{same_from_place, row_fits}
use Rattle.net_graph.specs.declared.edge.Edge.{Edge}
use Rattle.net_graph.specs.declared.neighbours.Arc.{Arc}
use Rattle.net_graph.specs.Walks.{Joins, everywhere}
use Rattle.net_graph.specs.LeastWeights.{LeastWeightsAreBounded, LeastWeightsAreFound, least_weight}
use Rattle.net_graph.specs.Network.{Network, IsNetwork}
use Rattle.net_graph.specs.Layout.{AreArcsOf, IsArc, make_arc}
use Rattle.net_graph.specs.WalkLaws.{join_turned}
use Rattle.distances.specs.declared.weights.TheConstants.{FAR}
use Rattle.distances.specs.Lowering.{Among, ArcOffer, Below, EdgeOffer, IsLowered, cell_at}
use Rattle.distances.specs.Rows.{AreClosed, AreRowsOf}
use Rattle.distances.specs.NodesLeftOut.{AreLeast, IsEliminated, IsFirstTable, KeepsLengths}
use Rattle.distances.proofs.Lowered.{lowered_as, lowered_light, lowered_next, lowered_none}
use Rattle.distances.proofs.Lengths.{begins, bounded, least_there, lengths, step_length}

-- the arcs of one more node
pub arcs_step : {n : ℕ} (width : ℕ) {u : ℕ} {edges : List Edge} {arcs : List Arc} {old mid new : List ℕ}
    → AreArcsOf n edges u arcs → IsLowered (Below u (EdgeOffer edges n width)) old mid
    → IsLowered (Among arcs (ArcOffer width u)) mid new → IsLowered (Below (u + 1) (EdgeOffer edges n width)) old new
arcs_step {n} width {u} {edges} {arcs} are so_far lowered =
    lowered_next (EdgeOffer edges n width) u so_far (lowered_as (EdgeOffer edges n width u)
    (λ i w (arc, has, (at, weight)). (
      arc.target,
      (All-contains (IsArc n) arcs arc are.limits has).below,
      rw weight (are.sound arc.target arc.weight has),
      at,
    )) (λ i w (v, below, joined, at). (make_arc v w, are.whole v w joined, (at, refl))) lowered)

pub no_arcs : (n width : ℕ) (edges : List Edge) (old : List ℕ) → IsLowered (Below 0 (EdgeOffer edges n width)) old old
no_arcs n width edges old = search (rules, lowered_none)

pub first_done : (network : Network) (width : ℕ) {table : List ℕ} → network.nodes ≤ width
    → IsLowered (Below network.nodes (EdgeOffer network.edges network.nodes width))
    (replicate (network.nodes * width) FAR) table → IsFirstTable network width table
first_done network width {table} wide lowered =
    let n : ℕ = network.nodes in
    record {
      count = lowered.count ∙ length-replicate (n * width) FAR;
      light = lowered_light FAR lowered (All-replicate (λ w. w ≤ FAR) (n * width) FAR (omega arith));
      sound = λ u v u_below v_below. elim (lowered.cause (u * width + v)) [
        | inl kept ↦ inl (kept ∙ get_or-replicate (n * width) (u * width + v) FAR 0
            (omega (arith, row_fits u width n width u_below (omega arith), wide, v_below)))
        | inr (x, x_below, (y, y_below, joined, at)) ↦
            let place = same_from_place u v x y width (omega (arith, wide)) (omega (arith, wide)) at in
            inr (subst₂ (λ a b. Joins network.edges a b (cell_at width table u v)) (sym place.0) (sym place.1) joined)
      ];
      whole = λ u v w u_below v_below joined. lowered.reached (u * width + v) w
          (u, u_below, (v, v_below, joined, refl));
    }

module _ (network : Network) (sound : IsNetwork network) (width : ℕ) (wide : network.nodes ≤ width) (table : List ℕ)
    (first : IsFirstTable network width table) where
  turned_below : (u v : ℕ) → u < network.nodes → v < network.nodes
      → cell_at width table v u ≤ cell_at width table u v
  turned_below u v u_below v_below = search (rules, row_fits, join_turned)

  module _ (bounds : LeastWeightsAreBounded) (d : ℕ → ℕ → ℕ) (least : AreLeast network d) where
    pub begun : KeepsLengths (λ x. x < network.nodes) (cell_at width table) d
    begun = record {
      sound = λ a b a_below b_below. elim (first.sound a b a_below b_below) [
        | inl far ↦ omega (arith, (lengths network sound d least bounds).light a b a_below b_below)
        | inr joined ↦ step_length network sound d least a b (cell_at width table a b) a_below b_below joined
      ];
      turned = λ a b a_below b_below. omega (arith, turned_below a b a_below b_below, turned_below b a b_below a_below);
      goes_on = λ a b a_below b_below apart.
          let g = begins network sound d least a b a_below b_below apart in
          record {
            next = g.next;
            is_left = g.below;
            other = g.other;
            short = omega (arith, first.whole a g.next g.weight a_below g.below g.joined, g.short);
          };
    }

-- the table as the code has it
pub rows_made : LeastWeightsAreFound → LeastWeightsAreBounded → {network : Network} → IsNetwork network → {n : ℕ}
    → n ≡ network.nodes → {width : ℕ} → n ≤ width → {first seen filled : List ℕ} (more : List ℕ) {wide closed : List ℕ}
    {k : ℕ} → IsFirstTable network width first → seen ≡ first → length seen ≡ k → IsEliminated n width seen filled
    → wide ≡ take k (filled ++ more) → AreClosed n width wide closed → AreRowsOf network closed
rows_made least_of bounds {network} sound {n} is_n {width} n_wide {first} {filled = filled} more {wide} {closed} {k}
    is_first seen_is count eliminated wide_is is_closed =
    let here : IsEliminated network.nodes width first filled = rw (← is_n, ← seen_is) eliminated in
    let same : length filled ≡ k = here.count ∙ sym is_first.count ∙ sym (ap length seen_is) ∙ count in
    let rows_are : wide ≡ filled = wide_is ∙ take_at filled more k same in
    let rows : AreClosed network.nodes width filled closed = rw (← is_n, ← rows_are) is_closed in
    let d : ℕ → ℕ → ℕ = least_weight network everywhere in
    let least : AreLeast network d = least_there least_of network sound in
    let is : (a b : ℕ) → a < network.nodes → b < network.nodes → cell_at network.nodes closed a b ≡ d a b =
    λ a b a_below b_below. rows.each a b a_below b_below
    ∙ here.each d (lengths network sound d least bounds)
    (begun network sound width (rw (← is_n) n_wide) first is_first bounds d least) a b a_below b_below in
    record {
      count = rows.count;
      each = λ a v a_below v_below. rw (is a v a_below v_below) (least a v a_below v_below);
      bounded = λ a v a_below v_below.
          rw (is a v a_below v_below) (bounded network sound d least bounds a v a_below v_below);
    }
