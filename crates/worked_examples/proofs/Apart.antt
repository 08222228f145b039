-- On the network of four nodes and one edge, no walk leads from node 0 to nodes 2 and 3.
use Rattle.std.proofs.Common.{◌≡◌, ◌≤◌, ◌<◌, ℕ, zero, suc, Bool, [], ◌∷◌, List, ap, refl, inl, inr, subst, arith}
use Rattle.std.specs.Prelude.{slice_index_or}
use Rattle.net_graph.specs.declared.edge.Edge.{Edge}
use Rattle.net_graph.specs.Network.{IsFirstApart}
use Rattle.net_graph.specs.Walks.{IsReached, IsWalk, Joins, Step, everywhere, make_edge}
use Rattle.worked_examples.specs.Grammar.{first_edge}

-- what a list of one holds at a place within it
at_place : (one other : Edge) (k : ℕ) → k < 1 → slice_index_or (one ∷ []) k other ≡ other
    → one ≡ other
at_place one other zero low is = is
at_place one other (suc k) low is = absurd (omega (arith, low))

-- both ends of a step are among the first two nodes
near : (u v w : ℕ) → Joins first_edge u v w → v ≤ 1
near u v w (inl there) =
    let same = at_place (make_edge 0 1 1) (make_edge u v w) there.0 there.1 there.2 in
    let e : ◌≡◌ {A = ℕ} 1 v = ap (λ (edge : Edge). edge.b) same in omega (arith, e)
near u v w (inr there) =
    let same = at_place (make_edge 0 1 1) (make_edge v u w) there.0 there.1 there.2 in
    let e : ◌≡◌ {A = ℕ} 0 v = ap (λ (edge : Edge). edge.a) same in omega (arith, e)

-- a walk stays among them
pub stays : (inside : ℕ → Bool) (u v : ℕ) (steps : List Step) → u ≤ 1 → IsWalk first_edge inside u steps v
    → v ≤ 1
stays inside u v [] low walk = subst (λ n. n ≤ 1) walk.1 low
stays inside u v (step ∷ steps) low walk =
    stays inside step.node v steps (near u step.node step.weight walk.1) walk.2

-- both are reached
pub reached : (v : ℕ) → v < 2 → IsReached first_edge everywhere 0 v
reached zero low = record { steps = []; walk = (refl, refl) }
reached (suc zero) low = record {
  steps = record { node = 1; weight = 1 } ∷ [];
  walk = (refl, inl (0, omega arith, refl), (refl, refl));
}
reached (suc (suc v)) low = absurd (omega (arith, low))

-- node 2 is the first that isn't
pub least_apart : IsFirstApart 4 first_edge 2
least_apart = record {
  below = omega arith;
  apart = λ steps walk. let e = stays everywhere 0 2 steps (omega arith) walk in omega (arith, e);
  first = reached;
}
