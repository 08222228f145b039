-- Laws of walks, of their weights and of least weights, for proofs over networks. Key laws,
-- in words public functions of `laws`: `least_weight_is_one`, `least_weight_turned`,
-- `least_weights_add_up`.
use Rattle.std.proofs.Common.{◌≡◌, ◌≢◌, ℕ, ◌+◌, ◌<◌, ◌≤◌, Bool, true, false, List, [], ◌∷◌, ◌++◌, length, refl, sym, ◌∙◌, subst, inl, inr, arith}
use Rattle.std.specs.Prelude.{All, ◌↔◌, min, ◌⊎◌}
use Rattle.std.proofs.lemmas.List.Elements.{All-contains}
use Rattle.net_graph.specs.declared.edge.Edge.{Edge}
use Rattle.net_graph.specs.Walks.{Joins, make_edge, Step, everywhere, among, IsWalk, weight_of, IsWalkWeight, IsLeastWeight, IsUnreached}
use Rattle.net_graph.specs.Network.{IsEdge}
use Rattle.std.proofs.lemmas.Bool.{cases_lt}
use Rattle.std.proofs.lemmas.List.{get_or_past}

-- a node that is among the allowed ones has its place in their list
pub among_below : (allowed : List Bool) (v : ℕ) → among allowed v ≡ true → v < length allowed
among_below allowed v h = grind (arith, get_or_past allowed v false)

pub join_turned : (edges : List Edge) (u v w : ℕ) → Joins edges u v w → Joins edges v u w
join_turned edges u v w (inl h) = inr h
join_turned edges u v w (inr h) = inl h

-- what an edge joins lies below n, and its weight is positive
pub join_edge : (n : ℕ) (edges : List Edge) (u v w : ℕ) → All (IsEdge n) edges → Joins edges u v w
    → (u < n) × (v < n) × IsEdge n (make_edge u v w)
join_edge n edges u v w all (inl h) =
    let e = All-contains (IsEdge n) edges (make_edge u v w) all h in (e.a_below, e.b_below, e)
join_edge n edges u v w all (inr h) =
    let e = All-contains (IsEdge n) edges (make_edge v u w) all h in (
      e.b_below,
      e.a_below,
      record {
        a_below = e.b_below;
        b_below = e.a_below;
        positive = e.positive;
        light = e.light;
      },
    )

pub walk_begins : (edges : List Edge) (inside : ℕ → Bool) (u : ℕ) (steps : List Step) (v : ℕ)
    → IsWalk edges inside u steps v → inside u ≡ true
walk_begins edges inside u [] v walk = walk.0
walk_begins edges inside u (step ∷ steps) v walk = walk.0

pub walk_ends : (edges : List Edge) (inside : ℕ → Bool) (u : ℕ) (steps : List Step) (v : ℕ)
    → IsWalk edges inside u steps v → inside v ≡ true
walk_ends edges inside u [] v walk = subst (λ x. inside x ≡ true) walk.1 walk.0
walk_ends edges inside u (step ∷ steps) v walk = walk_ends edges inside step.node steps v walk.2

pub walk-append : (edges : List Edge) (inside : ℕ → Bool) (u : ℕ) (steps : List Step) (v : ℕ)
    (more : List Step) (x : ℕ)
    → IsWalk edges inside u steps v → IsWalk edges inside v more x
    → IsWalk edges inside u (steps ++ more) x
walk-append edges inside u [] v more x walk next =
    subst (λ y. IsWalk edges inside y more x) (sym walk.1) next
walk-append edges inside u (step ∷ steps) v more x walk next =
    (walk.0, walk.1, walk-append edges inside step.node steps v more x walk.2 next)

pub weight_of-append : (steps more : List Step)
    → weight_of (steps ++ more) ≡ weight_of steps + weight_of more
weight_of-append [] more = omega arith
weight_of-append (step ∷ steps) more = omega (arith, weight_of-append steps more)

-- one more step at the end
pub walk_further : (edges : List Edge) (inside : ℕ → Bool) (u v x w c : ℕ)
    → IsWalkWeight edges inside u v w → inside x ≡ true → Joins edges v x c
    → IsWalkWeight edges inside u x (w + c)
walk_further edges inside u v x w c so_far is_inside joined =
    let last : List Step = record { node = x; weight = c } ∷ [] in
    record {
      steps = so_far.steps ++ last;
      walk = walk-append edges inside u so_far.steps v last x so_far.walk
          (walk_ends edges inside u so_far.steps v so_far.walk, joined, (is_inside, refl));
      sum = omega (arith, weight_of-append so_far.steps last, so_far.sum);
    }

pub walk_turned : (edges : List Edge) (inside : ℕ → Bool) (u : ℕ) (steps : List Step) (v : ℕ)
    → IsWalk edges inside u steps v → IsWalkWeight edges inside v u (weight_of steps)
walk_turned edges inside u [] v walk =
    record {
      steps = [];
      walk = (subst (λ x. inside x ≡ true) walk.1 walk.0, sym walk.1);
      sum =
          refl;
    }
walk_turned edges inside u (step ∷ steps) v walk =
    let back = walk_turned edges inside step.node steps v walk.2 in
    let whole = walk_further edges inside v step.node u (weight_of steps) step.weight back walk.0
    (join_turned edges u step.node step.weight walk.1) in
    record { steps = whole.steps; walk = whole.walk; sum = omega (arith, whole.sum) }

pub least_weight_one : (edges : List Edge) (inside : ℕ → Bool) (u v w x : ℕ)
    → IsLeastWeight edges inside u v w → IsLeastWeight edges inside u v x → w ≡ x
least_weight_one edges inside u v w x p q =
    omega (
      arith,
      p.least q.attained.steps q.attained.walk,
      q.least p.attained.steps
          p.attained.walk,
      p.attained.sum,
      q.attained.sum,
    )

pub least_weight_back : (edges : List Edge) (inside : ℕ → Bool) (u v w : ℕ)
    → IsLeastWeight edges inside u v w → IsLeastWeight edges inside v u w
least_weight_back edges inside u v w p =
    let back = walk_turned edges inside u p.attained.steps v p.attained.walk in
    record {
      attained = record { steps = back.steps; walk = back.walk; sum = back.sum ∙ p.attained.sum };
      least = λ steps walk.
          let there = walk_turned edges inside v steps u walk in
          omega (arith, p.least there.steps there.walk, there.sum);
    }

pub triangle : (edges : List Edge) (inside : ℕ → Bool) (u v x a b c : ℕ)
    → IsLeastWeight edges inside u v a → IsLeastWeight edges inside v x b
    → IsLeastWeight edges inside u x c → c ≤ a + b
triangle edges inside u v x a b c p q r =
    omega (
      arith,
      r.least (p.attained.steps ++ q.attained.steps)
          (walk-append edges inside u p.attained.steps v q.attained.steps x p.attained.walk
          q.attained.walk),
      weight_of-append p.attained.steps q.attained.steps,
      p.attained.sum,
      q.attained.sum,
    )

walk_positive : (n : ℕ) (edges : List Edge) (inside : ℕ → Bool) → All (IsEdge n) edges
    → (u : ℕ) (steps : List Step) (v : ℕ) → u ≢ v
    → IsWalk edges inside u steps v → 1 ≤ weight_of steps
walk_positive n edges inside all u [] v other walk = absurd (other walk.1)
walk_positive n edges inside all u (step ∷ steps) v other walk =
    omega (arith, (join_edge n edges u step.node step.weight all walk.1).2.positive)

pub least_positive : (n : ℕ) (edges : List Edge) (inside : ℕ → Bool) (u v w : ℕ)
    → All (IsEdge n) edges → u ≢ v
    → IsLeastWeight edges inside u v w → 1 ≤ w
least_positive n edges inside u v w all other p =
    omega (
      arith,
      walk_positive n edges inside all u p.attained.steps v other p.attained.walk,
      p.attained.sum,
    )

-- a walk that weighs no more
pub record IsNoHeavier (edges : List Edge) (inside : ℕ → Bool) (u v w : ℕ) : Type 0 where
  pub steps : List Step
  pub walk : IsWalk edges inside u steps v
  pub light : weight_of steps ≤ w

-- a walk stays inside a test that holds wherever another does, below n
pub walk_widened : (n : ℕ) (edges : List Edge) (inside other : ℕ → Bool) → All (IsEdge n) edges
    → ((x : ℕ) → x < n → inside x ≡ true → other x ≡ true)
    → (u : ℕ) (steps : List Step) (v : ℕ) → u < n → IsWalk edges inside u steps v
    → IsWalk edges other u steps v
walk_widened n edges inside other all wider u [] v below walk = (wider u below walk.0, walk.1)
walk_widened n edges inside other all wider u (step ∷ steps) v below walk =
    let joined = join_edge n edges u step.node step.weight all walk.1 in (
      wider u below walk.0,
      walk.1,
      walk_widened n edges inside other all wider step.node steps v
          joined.1 walk.2,
    )

pub least_widened : (n : ℕ) (edges : List Edge) (inside other : ℕ → Bool) → All (IsEdge n) edges
    → ((x : ℕ) → x < n → inside x ≡ true → other x ≡ true)
    → ((x : ℕ) → x < n → other x ≡ true → inside x ≡ true)
    → (u v w : ℕ) → u < n → IsLeastWeight edges inside u v w → IsLeastWeight edges other u v w
least_widened n edges inside other all there back u v w below p = record {
  attained = record {
    steps = p.attained.steps;
    walk = walk_widened n edges inside other all there u p.attained.steps v below p.attained.walk;
    sum = p.attained.sum;
  };
  least = λ steps walk. p.least steps
      (walk_widened n edges other inside all back u steps v below walk);
}

everywhere-true : (allowed : List Bool) (n : ℕ) → length allowed ≡ n → All (λ x. x ≡ true) allowed
    → (x : ℕ) → x < n → everywhere x ≡ true → among allowed x ≡ true
everywhere-true allowed n count all x below h = all x false (omega arith)

pub least_everywhere : (n : ℕ) (edges : List Edge) (allowed : List Bool) (u v w : ℕ)
    → All (IsEdge n) edges → length allowed ≡ n → All (λ x. x ≡ true) allowed → u < n
    → IsLeastWeight edges (among allowed) u v w ↔ IsLeastWeight edges everywhere u v w
least_everywhere n edges allowed u v w all count true_all below = (
  least_widened n edges (among allowed) everywhere all (λ x b h. refl)
      (everywhere-true allowed n count true_all) u v w below,
  least_widened n edges everywhere (among allowed) all (everywhere-true allowed n count true_all)
      (λ x b h. refl) u v w below,
)

pub unreached_everywhere : (n : ℕ) (edges : List Edge) (allowed : List Bool) (u v : ℕ)
    → All (IsEdge n) edges → length allowed ≡ n → All (λ x. x ≡ true) allowed → u < n
    → IsUnreached edges (among allowed) u v ↔ IsUnreached edges everywhere u v
unreached_everywhere n edges allowed u v all count true_all below = (
  λ none steps walk. none steps (walk_widened n edges everywhere (among allowed) all
      (everywhere-true allowed n count true_all) u steps v below walk),
  λ none steps walk. none steps (walk_widened n edges (among allowed) everywhere all
      (λ x b h. refl) u steps v below walk),
)

-- the lesser of two is one of them
pub min-cases : (x y : ℕ) → (min x y ≡ x) ⊎ (min x y ≡ y)
min-cases x y = elim (cases_lt x y) [ inl less ↦ inl (omega arith) | inr more ↦ inr (omega arith) ]
