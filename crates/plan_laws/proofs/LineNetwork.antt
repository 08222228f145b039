-- The line of four is a network.
use Rattle.std.proofs.Common.{◌≡◌, ℕ, zero, suc, ◌+◌, ◌<◌, ◌≤◌, [], ◌∷◌, refl, arith, inl}
use Rattle.std.proofs.lemmas.List.Elements.{All-nil, All-cons}
use Rattle.net_graph.specs.Network.{IsEdge, IsNetwork}
use Rattle.net_graph.specs.Walks.{IsReached, Joins, everywhere, make_edge}
use Rattle.plan_laws.specs.Examples.{line_edges, line_network}

edge_up : (u : ℕ) → u < 3 → IsEdge 4 (make_edge u (suc u) 1)
edge_up u low = record { a_below = omega arith; b_below = omega arith; positive = omega arith; light = omega arith }

join_up : (u : ℕ) → u < 3 → Joins line_edges u (suc u) 1
join_up zero low = inl (0, omega arith, refl)
join_up (suc zero) low = inl (1, omega arith, refl)
join_up (suc (suc zero)) low = inl (2, omega arith, refl)
join_up (suc (suc (suc u))) low = absurd (omega arith)

reached_from : (more u v : ℕ) → v ≡ u + more → v ≤ 3 → IsReached line_edges everywhere u v
reached_from zero u v is low = record { steps = []; walk = (refl, omega arith) }
reached_from (suc more) u v is low =
    let rest = reached_from more (suc u) v (omega arith) low in
    record {
      steps = record { node = suc u; weight = 1 } ∷ rest.steps;
      walk = (refl, join_up u (omega arith), rest.walk);
    }

pub line_is_network : IsNetwork line_network
line_is_network = record {
  limits = record {
    positive = omega arith;
    few = omega arith;
    edges = All-cons (IsEdge 4) (make_edge 0 1 1) (make_edge 1 2 1 ∷ make_edge 2 3 1 ∷ []) (edge_up 0 (omega arith))
        (All-cons (IsEdge 4) (make_edge 1 2 1) (make_edge 2 3 1 ∷ []) (edge_up 1 (omega arith))
        (All-cons (IsEdge 4) (make_edge 2 3 1) [] (edge_up 2 (omega arith)) (All-nil (IsEdge 4))));
  };
  connected = λ v low. reached_from v 0 v (omega arith) (omega arith);
}
