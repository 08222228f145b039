use Rattle.std.proofs.Common.{◌≡◌, ℕ, zero, suc, List, [], ◌∷◌, ap, arith, inl, inr, refl, subst, sym}
use Rattle.std.specs.Prelude.{Contains}
use Rattle.net_graph.specs.declared.edge.Edge.{Edge}
use Rattle.net_graph.specs.Walks.{Joins, make_edge}
use Rattle.worked_examples.proofs.trees.wrong_graphs.Goals as goal

only-one : (one edge : Edge) → Contains (one ∷ []) edge → one ≡ edge
only-one one edge (zero, low, is) = is
only-one one edge (suc k, low, is) = absurd (omega (arith, low))

-- an edge of weight 3 alone joins nothing by the weight 7
no-seven : Joins (make_edge 0 1 3 ∷ []) 0 1 7 → ⊥
no-seven (inl there) =
    let e : ◌≡◌ {A = ℕ} 3 7 = ap (λ (e : Edge). e.weight) (only-one (make_edge 0 1 3) (make_edge 0 1 7) there) in
    omega (arith, e)
no-seven (inr there) =
    let e : ◌≡◌ {A = ℕ} 3 7 = ap (λ (e : Edge). e.weight) (only-one (make_edge 0 1 3) (make_edge 1 0 7) there) in
    omega (arith, e)

pub returns-clause-made_up : goal.returns-clause-made_up
returns-clause-made_up c = λ network graph edges.
    no-seven ((graph.joins 0 1 7).0
    (subst (λ (es : List Edge). Joins es 0 1 7) (sym edges) (inl (1, omega arith, refl)))).1

pub returns-clause-left_out : goal.returns-clause-left_out
returns-clause-left_out c = λ network graph edges.
    no-seven (subst (λ (es : List Edge). Joins es 0 1 7) edges
    ((graph.joins 0 1 7).1 ((λ same. omega (arith, same)), inl (1, omega arith, refl))))

pub returns-clause-to_itself : goal.returns-clause-to_itself
returns-clause-to_itself c = λ network graph edges.
    ((graph.joins 1 1 5).0
    (subst (λ (es : List Edge). Joins es 1 1 5) (sym edges) (inl (1, omega arith, refl)))).0 refl
