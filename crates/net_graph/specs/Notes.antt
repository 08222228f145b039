-- The arcs of a list of edges, each noted with the node that it leads from, while they are counted
-- and laid out. These definitions serve the private functions that make a graph's rows.
-- Key law: `fill_arcs` lays the arcs of each node in its row (`AreRows`).
use Rattle.std.specs.Prelude.{◌≡◌, ◌≢◌, ◌↔◌, ◌==◌, ℕ, ◌+◌, ◌<◌, ◌≤◌, List, [], ◌∷◌, All, cond, length, Contains, slice_index}
use Rattle.std.specs.List.{flat_map}
use Rattle.net_graph.specs.declared.edge.Edge.{Edge}
use Rattle.net_graph.specs.declared.neighbours.Arc.{Arc}
use Rattle.net_graph.specs.Walks.{Joins}
use Rattle.net_graph.specs.Starts.{HavePlaces}
use Rattle.net_graph.specs.Layout.{IsArc, make_arc, row}

-- an arc, and the node that it leads from
pub record Note : Type 0 where
  pub from : ℕ
  pub arc : Arc

-- the note of an arc
abbrev pub note_of : ℕ → ℕ → ℕ → Note
note_of from target weight = record { from = from; arc = make_arc target weight }

-- one note either way for an edge that is no loop
abbrev pub notes_by : Edge → List Note
notes_by edge = cond (edge.a == edge.b) []
    (note_of edge.a edge.b edge.weight ∷ note_of edge.b edge.a edge.weight ∷ [])

-- the notes of all these edges
abbrev pub notes_of : List Edge → List Note
notes_of edges = flat_map notes_by edges

-- the arcs among them that lead from u
abbrev pub row_of : ℕ → List Note → List Arc
row_of u [] = []
row_of u (note ∷ notes) = cond (note.from == u) (note.arc ∷ row_of u notes) (row_of u notes)

-- how many arcs lead from each node
abbrev pub AreCounts : List Note → List ℕ → Type 0
AreCounts notes counts = (v : ℕ) → v < length counts
    → slice_index counts v ≡ length (row_of v notes)

-- from its start on each of n nodes has a place for each of its arcs
abbrev pub HaveRoom : ℕ → List Note → List ℕ → Type 0
HaveRoom n notes starts = HavePlaces n (λ v. length (row_of v notes)) starts

-- an edge that is no loop joins u and v with weight w
abbrev pub JoinsOther : List Edge → ℕ → ℕ → ℕ → Type 0
JoinsOther edges u v w = (u ≢ v) × Joins edges u v w

-- the arcs are those from u by which nodes are joined
abbrev pub AreArcsBy : (ℕ → ℕ → ℕ → Type 0) → ℕ → List Arc → Type 0
AreArcsBy joins u arcs = (v w : ℕ) → Contains arcs (make_arc v w) ↔ joins u v w

-- the rows of n nodes lie in place: each has the arcs by which its node is joined
pub record AreRows (n : ℕ) (joins : ℕ → ℕ → ℕ → Type 0) (starts : List ℕ) (arcs : List Arc) :
    Type 0 where
  pub count : length starts ≡ n + 1
  pub ordered : (u : ℕ) → u < n → slice_index starts u ≤ slice_index starts (u + 1)
  pub within : (u : ℕ) → u < n → slice_index starts (u + 1) ≤ length arcs
  pub are : (u : ℕ) → u < n → AreArcsBy joins u (row starts arcs u)
  pub limits : All (IsArc n) arcs
