-- Walks along the edges of a network, and the least weight of a walk whose nodes all lie in a set.
-- Each definition takes the list of edges and a test `inside`, that says which nodes a walk may
-- visit. Key laws: `least_weight_is_one`, `least_weight_turned` (the same from either end),
-- `least_weights_add_up`, `least_weight_to_itself`, `least_weight_is_reached`.
use Rattle.std.specs.Prelude.{◌≡◌, ◌⊎◌, ℕ, ◌+◌, ◌≤◌, Bool, true, false, List, [], ◌∷◌, Contains, IsTrue, slice_index_or}
use Rattle.net_graph.specs.declared.edge.Edge.{Edge}

-- the edge of these ends and this weight
abbrev pub make_edge : ℕ → ℕ → ℕ → Edge
make_edge u v w = record { a = u; b = v; weight = w }

-- some edge of the list, in either direction, joins u and v with weight w
abbrev pub Joins : List Edge → ℕ → ℕ → ℕ → Type 0
Joins edges u v w = Contains edges (make_edge u v w) ⊎ Contains edges (make_edge v u w)

-- a step of a walk: the node that it leads to, and the weight of the edge that it takes
pub record Step : Type 0 where
  pub node : ℕ
  pub weight : ℕ

-- every node
abbrev pub everywhere : ℕ → Bool
everywhere v = true

-- the nodes at which the list holds true
abbrev pub among : List Bool → ℕ → Bool
among allowed v = slice_index_or allowed v false

-- the steps lead from u to v along edges of the list, and each node of the walk, u and v too, is
-- inside
abbrev pub IsWalk : List Edge → (ℕ → Bool) → ℕ → List Step → ℕ → Type 0
IsWalk edges inside u [] v = IsTrue (inside u) × (u ≡ v)
IsWalk edges inside u (step ∷ steps) v = IsTrue (inside u) × Joins edges u step.node step.weight
    × IsWalk edges inside step.node steps v

-- the sum of the weights of the steps
abbrev pub weight_of : List Step → ℕ
weight_of [] = 0
weight_of (step ∷ steps) = step.weight + weight_of steps

-- a walk of this weight leads from u to v inside
pub record IsWalkWeight (edges : List Edge) (inside : ℕ → Bool) (u v w : ℕ) : Type 0 where
  pub steps : List Step
  pub walk : IsWalk edges inside u steps v
  pub sum : weight_of steps ≡ w

-- a walk of weight w leads from u to v inside, and no walk inside weighs less
pub record IsLeastWeight (edges : List Edge) (inside : ℕ → Bool) (u v w : ℕ) : Type 0 where
  pub attained : IsWalkWeight edges inside u v w
  pub least : (steps : List Step) → IsWalk edges inside u steps v → w ≤ weight_of steps

-- no walk leads from u to v inside
abbrev pub IsUnreached : List Edge → (ℕ → Bool) → ℕ → ℕ → Type 0
IsUnreached edges inside u v = (steps : List Step) → IsWalk edges inside u steps v → ⊥

-- some walk leads from u to v inside
pub record IsReached (edges : List Edge) (inside : ℕ → Bool) (u v : ℕ) : Type 0 where
  pub steps : List Step
  pub walk : IsWalk edges inside u steps v
