-- Edges that aren't refused are edges of a network; and how a search for a fault goes on.
use Rattle.std.proofs.Common.{◌≡◌, ℕ, suc, Bool, true, false, not, nat_lt, List, [], ◌∷◌, length, map, refl, arith}
use Rattle.std.proofs.lemmas.Bool.Decides.{nat_tests}
use Rattle.std.specs.Prelude.{All, None, Some, Option, if◌then◌else◌}
use Rattle.std.proofs.lemmas.List.Elements.{All-cons, All-nil}
use Rattle.net_graph.specs.Network.{IsEdge}
use Rattle.track_c.specs.Edges.{edge_fault, edge_of, edges_fault, first_fault, is_measured, or_else, refusal}
use Rattle.track_c.specs.declared.edges.TrackEdge.{TrackEdge}
use Rattle.track_c.specs.declared.plans.TrackRefusal.{TrackRefusal}

-- neither of two refusals is there where the first of them isn't
neither : (first second : Option TrackRefusal) → or_else first second ≡ None
    → (first ≡ None) × (second ≡ None)
neither None second none = (refl, none)
neither (Some first) second none = cc

-- an edge that isn't refused
edge-right : (nodes place : ℕ) (edge : TrackEdge) → edge_fault nodes place edge ≡ None
    → IsEdge nodes (edge_of edge)
edge-right nodes place edge none =
    record {
      a_below = grind (arith, nat_tests);
      b_below = grind (arith, nat_tests);
      positive = grind (arith, nat_tests);
      light = grind (arith, nat_tests);
    }

-- edges that aren't refused
edges-right : (nodes place : ℕ) (edges : List TrackEdge) → first_fault nodes place edges ≡ None
    → All (IsEdge nodes) (map edge_of edges)
edges-right nodes place [] none = All-nil (IsEdge nodes)
edges-right nodes place (edge ∷ edges) none =
    let parts = neither (edge_fault nodes place edge) (first_fault nodes (suc place) edges) none in
    All-cons (IsEdge nodes) (edge_of edge) (map edge_of edges) (edge-right nodes place edge parts.0)
    (edges-right nodes (suc place) edges parts.1)

-- what is left of a choice that gives nothing
last-of : (chosen : Bool) (first : TrackRefusal) (rest : Option TrackRefusal)
    → (if chosen then Some first else rest) ≡ None → rest ≡ None
last-of true first rest none = cc
last-of false first rest none = none

-- edges that aren't refused with their nodes and their trade-off
pub edges-sound : (nodes k : ℕ) (edges : List TrackEdge) → edges_fault nodes k edges ≡ None
    → All (IsEdge nodes) (map edge_of edges)
edges-sound nodes k edges none =
    edges-right nodes 1 edges
    (last-of (nat_lt 32768 (length edges)) (refusal 3 0 0) (first_fault nodes 1 edges)
    (last-of (not (is_measured nodes k)) (refusal 2 0 0)
    (if nat_lt 32768 (length edges) then Some (refusal 3 0 0) else first_fault nodes 1 edges) none))
