-- The arcs that lead from a node, among those that a list of edges notes.
use Rattle.std.proofs.Common.{◌≡◌, ◌≢◌, ◌⊎◌, ℕ, ◌+◌, ◌<◌, ◌≤◌, List, [], ◌∷◌, ◌++◌, length, get_or, take, refl, sym, ◌∙◌, ap, subst, inl, inr, arith}
use Rattle.std.specs.Prelude.{Contains, ◌==◌}
use Rattle.std.proofs.lemmas.Bool.{cases_Bool, cases_eq, eq-eqb, ne_eqb}
use Rattle.std.proofs.lemmas.Bool.Decides.{nat_tests}
use Rattle.std.proofs.lemmas.Grind.{flat_map-append}
use Rattle.std.proofs.lemmas.List.{append-nil, length-append, take_more}
use Rattle.std.proofs.lemmas.List.Concat.{flat_map-cons}
use Rattle.std.proofs.lemmas.List.Elements.{Contains-append_cases, Contains-append_left, Contains-append_right}
use Rattle.net_graph.specs.declared.edge.Edge.{Edge}
use Rattle.net_graph.specs.declared.neighbours.Arc.{Arc}
use Rattle.net_graph.specs.Walks.{Joins, make_edge}
use Rattle.net_graph.specs.Layout.{make_arc}
use Rattle.net_graph.proofs.Elements.{first, first_or_later, later}
use Rattle.net_graph.specs.Notes.{Note, note_of, notes_by, notes_of, row_of, JoinsOther, AreArcsBy}

-- ---- rows

pub row-append : (u : ℕ) (xs ys : List Note) → row_of u (xs ++ ys) ≡ row_of u xs ++ row_of u ys
row-append u [] ys = refl
row-append u (x ∷ xs) ys = grind (arith, row-append u xs ys)

pub row-at : {u : ℕ} (note : Note) (rest : List Note) → u ≡ note.from → row_of u (note ∷ rest) ≡ note.arc ∷ row_of u
    rest
row-at {u} note rest is = rw (eq-eqb note.from u (sym is)) refl

pub row-own : (note : Note) (rest : List Note) → row_of note.from (note ∷ rest) ≡ note.arc ∷ row_of note.from rest
row-own note rest = row-at note rest refl

pub row-other : {u : ℕ} (note : Note) (rest : List Note) → (u ≡ note.from → ⊥) → row_of u (note ∷ rest) ≡ row_of u rest
row-other {u} note rest other = rw (ne_eqb note.from u (λ same. other (sym same))) refl

-- ---- the notes of edges

pub loop-notes : (edge : Edge) → edge.a ≡ edge.b → notes_by edge ≡ []
loop-notes edge same = rw (eq-eqb edge.a edge.b same) refl

pub edge-notes : (edge : Edge) → edge.a ≢ edge.b → notes_by edge
    ≡ note_of edge.a edge.b edge.weight ∷ note_of edge.b edge.a edge.weight ∷ []
edge-notes edge apart = rw (ne_eqb edge.a edge.b apart) refl

-- one edge has at most one arc from each node
few-arcs : (u : ℕ) (edge : Edge) → length (row_of u (notes_by edge)) ≤ 1
few-arcs u edge = grind (arith, nat_tests)

pub notes-push : (edges : List Edge) (i : ℕ) (d : Edge) → i < length edges
    → notes_of (take (i + 1) edges) ≡ notes_of (take i edges) ++ notes_by (get_or edges i d)
notes-push edges i d below =
    ap notes_of (take_more edges i d below)
    ∙ flat_map-append notes_by (take i edges) (get_or edges i d ∷ [])
    ∙ ap (λ xs. notes_of (take i edges) ++ xs)
    (flat_map-cons notes_by (get_or edges i d) [] ∙ append-nil (notes_by (get_or edges i d)))

-- ---- what a row has

nothing_there : {X R : Type 0} (x : X) → Contains [] x → R
nothing_there x (k, below, here) = absurd (omega arith)

abbrev noted : ℕ → Arc → Note
noted u x = record { from = u; arc = x }

-- each arc of a row is noted with its node
row-note : (u : ℕ) (notes : List Note) (x : Arc) → Contains (row_of u notes) x → Contains notes (noted u x)
row-note u [] x has = nothing_there x has
row-note u (note ∷ notes) x has = elim (cases_eq note.from u) [
  | inl here ↦ elim (first_or_later x note.arc (row_of u notes) (rw (eq-eqb note.from u here) at has)) [
    | inl is ↦ (0, omega arith, ap (λ v. noted v note.arc) here ∙ ap (noted u) is)
    | inr behind ↦ later (noted u x) note notes (row-note u notes x behind)
  ]
  | inr away ↦ later (noted u x) note notes (row-note u notes x (rw (ne_eqb note.from u away) at has))
]

note-row : (u : ℕ) (notes : List Note) (x : Arc) → Contains notes (noted u x) → Contains (row_of u notes) x
note-row u [] x has = nothing_there (noted u x) has
note-row u (note ∷ notes) x has = elim (first_or_later (noted u x) note notes has) [
  | inl is ↦ rw (eq-eqb note.from u (ap (λ (n : Note). n.from) is)) (0, omega arith, ap (λ (n : Note). n.arc) is)
  | inr behind ↦ elim (cases_Bool (note.from == u)) [
    | inl here ↦ rw here (later x note.arc (row_of u notes) (note-row u notes x behind))
    | inr away ↦ rw away (note-row u notes x behind)
  ]
]

-- what one edge notes
edge-noted : (edge : Edge) (u v w : ℕ) → Contains (notes_by edge) (note_of u v w)
    → (u ≢ v) × ((edge ≡ make_edge u v w) ⊎ (edge ≡ make_edge v u w))
edge-noted edge u v w has = grind (arith, cases_eq edge.a edge.b)

-- ---- the row of a node has the arcs by which it is joined

row-cons : (u : ℕ) (edge : Edge) (edges : List Edge) → row_of u (notes_of (edge ∷ edges))
    ≡ row_of u (notes_by edge) ++ row_of u (notes_of edges)
row-cons u edge edges =
    ap (row_of u) (flat_map-cons notes_by edge edges) ∙ row-append u (notes_by edge) (notes_of edges)

-- each note is that of an edge
from_edge : (edges : List Edge) (note : Note) → Contains (notes_of edges) note
    → (edge : Edge) × Contains edges edge × Contains (notes_by edge) note
from_edge [] note has = nothing_there note has
from_edge (edge ∷ edges) note has =
    elim (Contains-append_cases (notes_by edge) (notes_of edges) note
    (subst (λ xs. Contains xs note) (flat_map-cons notes_by edge edges) has)) [
      | inl here ↦ (edge, first edge edges, here)
      | inr there ↦ let e = from_edge edges note there in (e.0, later e.0 edge edges e.1, e.2)
    ]

joined : (edges : List Edge) (u v w : ℕ) → Contains (notes_of edges) (note_of u v w) → JoinsOther edges u v w
joined edges u v w has = grind (arith, from_edge edges (note_of u v w) has, edge-noted)

of_edge : (edges : List Edge) {edge : Edge} (note : Note) → Contains edges edge → Contains (notes_by edge) note
    → Contains (notes_of edges) note
of_edge [] {edge} note has at = nothing_there edge has
of_edge (e ∷ edges) {edge} note has at =
    subst (λ xs. Contains xs note) (sym (flat_map-cons notes_by e edges)) (elim (first_or_later edge e edges has) [
      | inl is ↦ Contains-append_left (notes_by e) (notes_of edges) note
          (subst (λ x. Contains (notes_by x) note) (sym is) at)
      | inr behind ↦ Contains-append_right (notes_by e) (notes_of edges) note (of_edge edges note behind at)
    ])

in_notes : (edges : List Edge) (u v w : ℕ) → u ≢ v → Joins edges u v w → Contains (notes_of edges) (note_of u v w)
in_notes edges u v w apart (inl h) = of_edge edges (note_of u v w) h
    (rw (edge-notes (make_edge u v w) apart) (first (note_of u v w) (note_of v u w ∷ [])))
in_notes edges u v w apart (inr h) = of_edge edges (note_of u v w) h
    (rw (edge-notes (make_edge v u w) (λ same. apart (sym same)))
    (later (note_of u v w) (note_of v u w) (note_of u v w ∷ []) (first (note_of u v w) [])))

-- a node has no more arcs than there are edges
pub few_arcs : (edges : List Edge) (u : ℕ) → length (row_of u (notes_of edges)) ≤ length edges
few_arcs [] u = omega arith
few_arcs (edge ∷ edges) u = grind (arith, few_arcs edges u, row-cons, length-append, few-arcs)

pub row_is : (edges : List Edge) (u : ℕ) → AreArcsBy (JoinsOther edges) u (row_of u (notes_of edges))
row_is edges u v w = (
  λ has. joined edges u v w (row-note u (notes_of edges) (make_arc v w) has),
  λ way. note-row u (notes_of edges) (make_arc v w) (in_notes edges u v w way.0 way.1),
)
