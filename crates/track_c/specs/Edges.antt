-- What a plan is made of: the edges of a network, with its nodes and its trade-off, within the limits
-- of texts. Edges that are refused tell the cause, the place of the first bad edge from 1 on, and the
-- node that is apart.
-- Key law: `track_plan_build`, by its clauses.
use Rattle.std.specs.Prelude.{◌≡◌, ℕ, suc, ◌∷◌, [], ◌&&◌, ◌||◌, Bool, not, nat_le, nat_lt, if◌then◌else◌, List, length, map, Option, Some, None}
use Rattle.net_graph.specs.Network.{IsFirstApart, IsGraphOf, Network as Graph}
use Rattle.net_graph.specs.declared.edge.Edge.{Edge}
use Rattle.net_graph.specs.declared.edge.TheConstants.{MAX_NODES, MAX_WEIGHT}
use Rattle.region_plan.specs.Regions.{plan_of}
use Rattle.track_c.specs.Held.{PlanHeld}
use Rattle.track_c.specs.declared.edges.TrackEdge.{TrackEdge}
use Rattle.track_c.specs.declared.plans.TrackRefusal.{TrackRefusal}

-- an edge of C
abbrev pub edge_of : TrackEdge → Edge
edge_of edge = record { a = edge.a; b = edge.b; weight = edge.weight }

-- a refusal
abbrev pub refusal : ℕ → ℕ → ℕ → TrackRefusal
refusal cause line node = record { cause = cause; line = line; node = node }

-- whether a network of so many nodes may have this trade-off
abbrev pub is_measured : ℕ → ℕ → Bool
is_measured nodes k =
    nat_le 1 nodes && nat_le nodes MAX_NODES && nat_le 1 k && nat_le k 8
    && (nat_le nodes 256 || nat_le 2 k)

-- why an edge at this place is refused, if it is
abbrev pub edge_fault : ℕ → ℕ → TrackEdge → Option TrackRefusal
edge_fault nodes place edge =
    if not (nat_lt edge.a nodes && nat_lt edge.b nodes) then Some (refusal 4 place 0)
    else if not (nat_le 1 edge.weight && nat_le edge.weight MAX_WEIGHT)
    then Some (refusal 2 place 0) else None

-- the first of two refusals
abbrev pub or_else : Option TrackRefusal → Option TrackRefusal → Option TrackRefusal
or_else (Some first) second = Some first
or_else None second = second

-- why one of some edges, of which the first has this place, is refused, if one is
abbrev pub first_fault : ℕ → ℕ → List TrackEdge → Option TrackRefusal
first_fault nodes place [] = None
first_fault nodes place (edge ∷ edges) =
    or_else (edge_fault nodes place edge) (first_fault nodes (suc place) edges)

-- why edges are refused, but for the walks
abbrev pub edges_fault : ℕ → ℕ → List TrackEdge → Option TrackRefusal
edges_fault nodes k edges =
    if not (is_measured nodes k) then Some (refusal 2 0 0)
    else if nat_lt 32768 (length edges) then Some (refusal 3 0 0)
    else first_fault nodes 1 edges

-- the plan of these edges; nobody starts anywhere
pub record IsPlanOfEdges (nodes k : ℕ) (edges : List TrackEdge) (held : PlanHeld) : Type 0 where
  pub right : edges_fault nodes k edges ≡ None
  pub graph : Graph
  pub of : IsGraphOf nodes (map edge_of edges) graph
  pub plan : held.plan ≡ plan_of graph k
  pub starts : held.starts ≡ []

-- a node is apart, and is told
pub record IsApart (nodes : ℕ) (edges : List TrackEdge) (found : TrackRefusal) : Type 0 where
  pub node : ℕ
  pub apart : IsFirstApart nodes (map edge_of edges) node
  pub told : found ≡ refusal 8 0 node

-- why edges are refused: by themselves, or else since a node is apart
abbrev pub RefusedOr : Option TrackRefusal → (nodes : ℕ) → List TrackEdge → TrackRefusal → Type 0
RefusedOr (Some first) nodes edges found = found ≡ first
RefusedOr None nodes edges found = IsApart nodes edges found

abbrev pub AreRefused : ℕ → ℕ → List TrackEdge → TrackRefusal → Type 0
AreRefused nodes k edges found = RefusedOr (edges_fault nodes k edges) nodes edges found
