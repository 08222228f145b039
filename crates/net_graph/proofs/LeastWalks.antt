-- The least weight of a walk is found: whether a walk of a weight is there can be tested, since each edge weighs
-- something, and none of least weight visits a node twice.
use Rattle.std.proofs.Common.{rules, ◌≡◌, ℕ, zero, suc, ◌+◌, ◌-◌, ◌<◌, ◌≤◌, Bool, true, false, List, [], ◌∷◌, length, refl, sym, subst, inl, inr, arith, below_more, ◌∙◌, add-one}
use Rattle.std.specs.Prelude.{All, ◌==◌, ◌&&◌, ◌||◌, ◌*◌, cond, ltb}
use Rattle.std.specs.List.{list_any}
use Rattle.std.proofs.lemmas.Bool.{cases_Bool, cases_eq, cases_lt, eqb-true, eq-eqb, false≢true, and_parts, or_cases, or_right, and_from, or_left}
use Rattle.std.proofs.lemmas.Bool.Decides.{nat_tests}
use Rattle.std.proofs.lemmas.List.Folds.{Any-from_list_any, list_any_at}
use Rattle.net_graph.specs.declared.edge.Edge.{Edge}
use Rattle.net_graph.specs.declared.edge.TheConstants.{MAX_WEIGHT}
use Rattle.net_graph.specs.LeastWeights.{first_passing, leads_on, reaches, walk_weighs, LeastWeightsAreBounded, LeastWeightsAreFound}
use Rattle.net_graph.specs.Network.{IsEdge}
use Rattle.net_graph.specs.Walks.{Joins, Step, IsWalk, weight_of, IsWalkWeight, IsLeastWeight}
use Rattle.net_graph.specs.WalkLaws.{join_edge, least_weight_one}

-- ---- what is tested is there

-- an edge leads on, one way or the other
abbrev leads : (ℕ → ℕ → Bool) → ℕ → ℕ → Edge → Bool
leads goes m u e = leads_on goes m u e.a e.b e.weight || leads_on goes m u e.b e.a e.weight

-- one step in front of a walk
step_first : {edges : List Edge} {inside : ℕ → Bool} (u : ℕ) {x v : ℕ} (w m : ℕ) → inside u ≡ true → Joins edges u x w
    → w ≤ m → IsWalkWeight edges inside x v (m - w) → IsWalkWeight edges inside u v m
step_first u {x} w m is_inside joined le rest = record {
  steps = record { node = x; weight = w } ∷ rest.steps;
  walk = (is_inside, joined, rest.walk);
  sum = omega (arith, rest.sum);
}

leads_walk : {edges : List Edge} {inside : ℕ → Bool} {v : ℕ} (k m u from to w : ℕ)
    → ((n x : ℕ) → reaches edges inside v k n x ≡ true → IsWalkWeight edges inside x v n) → inside u ≡ true
    → Joins edges from to w → leads_on (reaches edges inside v k) m u from to w ≡ true → IsWalkWeight edges inside u v m
leads_walk {edges} {inside} {v} k m u from to w there is_inside joined e =
    search (rules, and_parts, step_first, eqb-true)

reached_here : (edges : List Edge) (inside : ℕ → Bool) (u v m : ℕ) → inside u ≡ true → (m == 0 && u == v) ≡ true
    → IsWalkWeight edges inside u v m
reached_here edges inside u v m is_inside e = search (rules, and_parts, eqb-true)

reaches-sound : (edges : List Edge) (inside : ℕ → Bool) (v k m u : ℕ) → reaches edges inside v k m u ≡ true
    → IsWalkWeight edges inside u v m
unfolding reaches
reaches-sound edges inside v zero m u e = absurd cc
reaches-sound edges inside v (suc k) m u e =
    let goes = reaches edges inside v k in
    let outer = and_parts (inside u) ((m == 0 && u == v) || list_any (leads goes m u) edges) e in
    elim (or_cases (m == 0 && u == v) (list_any (leads goes m u) edges) outer.1) [
      | inl here ↦ reached_here edges inside u v m outer.0 here
      | inr far ↦
          let found = Any-from_list_any (leads goes m u) edges far in
          let edge = found.1 in
          elim (or_cases (leads_on goes m u edge.a edge.b edge.weight) (leads_on goes m u edge.b edge.a edge.weight)
          found.4) [
            | inl on ↦ leads_walk k m u edge.a edge.b edge.weight (reaches-sound edges inside v k) outer.0
                (inl (found.0, found.2, found.3)) on
            | inr back ↦ leads_walk k m u edge.b edge.a edge.weight (reaches-sound edges inside v k) outer.0
                (inr (found.0, found.2, found.3)) back
          ]
    ]

-- ---- what is there is tested

leads_on-true : (goes : ℕ → ℕ → Bool) {m : ℕ} (u to w rest : ℕ) → m ≡ w + rest → goes rest to ≡ true
    → leads_on goes m u u to w ≡ true
leads_on-true goes {m} u to w rest sum e = grind (arith, rest, eq-eqb u u refl)

-- an edge of the list that joins the nodes passes the test
edge_passes : (edges : List Edge) (goes : ℕ → ℕ → Bool) {m : ℕ} (u x w rest : ℕ) → Joins edges u x w → m ≡ w + rest
    → goes rest x ≡ true → list_any (leads goes m u) edges ≡ true
edge_passes edges goes {m} u x w rest (inl h) sum e = grind (arith, leads, leads_on-true, or_left, list_any_at)
edge_passes edges goes {m} u x w rest (inr h) sum e = grind (arith, leads, leads_on-true, or_right, list_any_at)

reaches-whole : (edges : List Edge) (inside : ℕ → Bool) (u : ℕ) (steps : List Step) (v k : ℕ)
    → IsWalk edges inside u steps v → length steps < k
    → reaches edges inside v k (weight_of steps) u ≡ true
unfolding reaches
reaches-whole edges inside u steps v zero walk lt = absurd (omega arith)
reaches-whole edges inside u [] v (suc k) walk lt = grind (arith, eq-eqb, and_from, or_left)
reaches-whole edges inside u (step ∷ steps) v (suc k) walk lt =
    let goes = reaches edges inside v k in
    let m = step.weight + weight_of steps in
    and_from (inside u) _ walk.0 (or_right (m == 0 && u == v) _
    (edge_passes edges goes u step.node step.weight (weight_of steps) walk.1 refl
    (reaches-whole edges inside step.node steps v k walk.2 (omega arith))))

-- each step weighs something, so a walk has no more steps than weight
few_steps : (n : ℕ) (edges : List Edge) (inside : ℕ → Bool) (u : ℕ) (steps : List Step) (v : ℕ) → All (IsEdge n) edges
    → IsWalk edges inside u steps v → length steps ≤ weight_of steps
few_steps n edges inside u [] v all walk = omega arith
few_steps n edges inside u (step ∷ steps) v all walk =
    search (rules, join_edge, few_steps n edges inside step.node steps v all walk.2)

-- ---- the first number that passes a test

record IsFirst (p : ℕ → Bool) (number : ℕ) : Type 0 where
  passes : p number ≡ true
  first : (x : ℕ) → x < number → p x ≡ false

-- where a number passes within the tries, the first that does is found
first_found : (p : ℕ → Bool) (tries at w : ℕ) → p w ≡ true → at ≤ w → w < at + tries
    → ((x : ℕ) → x < at → p x ≡ false) → IsFirst p (first_passing p tries at)
unfolding first_passing
first_found p zero at w passes le lt before = absurd (omega arith)
first_found p (suc tries) at w passes le lt before = elim (cases_Bool (p at)) [
  | inl here ↦ rw here (record { passes = here; first = before })
  | inr not ↦ rw not (elim (cases_lt at w) [
    | inl less ↦ first_found p tries (suc at) w passes (omega arith) (omega arith)
        (λ x h. subst (λ i. (y : ℕ) → y < i → p y ≡ false) (add-one at) (below_more (λ y. p y ≡ false) at before not) x
        h)
    | inr more ↦ let same : w ≡ at = omega arith in
        absurd (false≢true (sym not ∙ subst (λ i. p i ≡ true) same passes))
  ])
]

-- ---- the least weight of a walk is the first number that a walk weighs

passes_test : (n : ℕ) (edges : List Edge) (inside : ℕ → Bool) (u v : ℕ) → All (IsEdge n) edges → (steps : List Step)
    → IsWalk edges inside u steps v → walk_weighs edges inside u v (weight_of steps) ≡ true
passes_test n edges inside u v all steps walk =
    reaches-whole edges inside u steps v (weight_of steps + 1) walk
    (omega (arith, few_steps n edges inside u steps v all walk))

least_of_first : (n : ℕ) (edges : List Edge) (inside : ℕ → Bool) (u v : ℕ) {w : ℕ} → All (IsEdge n) edges
    → IsFirst (walk_weighs edges inside u v) w → IsLeastWeight edges inside u v w
least_of_first n edges inside u v {w} all is = record {
  attained = reaches-sound edges inside v (w + 1) w u is.passes;
  least = λ steps walk.
      grind (arith, cases_lt (weight_of steps) w, passes_test n edges inside u v all steps walk, false≢true);
}

-- of so many tries, the first number that a walk weighs, where one weighs less
least_within : (n : ℕ) (edges : List Edge) (inside : ℕ → Bool) (u v tries : ℕ) → All (IsEdge n) edges
    → (steps : List Step) → IsWalk edges inside u steps v → weight_of steps < tries
    → IsLeastWeight edges inside u v (first_passing (walk_weighs edges inside u v) tries 0)
least_within n edges inside u v tries all steps walk lt =
    least_of_first n edges inside u v all (first_found (walk_weighs edges inside u v) tries 0 (weight_of steps)
    (passes_test n edges inside u v all steps walk) (omega arith) (omega arith) (λ x h. absurd (omega arith)))

-- ---- the numbers below n at which a function is below t

abbrev count : (ℕ → ℕ) → ℕ → ℕ → ℕ
count g t zero = 0
count g t (suc n) = count g t n + cond (ltb (g n) t) 1 0

one_below : (x t : ℕ) → x < t → ◌≡◌ {A = ℕ} (cond (ltb x t) 1 0) 1
one_below x t below = grind (arith, nat_tests)

one_past : (x t : ℕ) → t ≤ x → ◌≡◌ {A = ℕ} (cond (ltb x t) 1 0) 0
one_past x t past = grind (arith, nat_tests)

one_more : (x s t : ℕ) → s ≤ t → cond (ltb x s) 1 0 ≤ cond (ltb x t) 1 0
one_more x s t le = grind (arith, nat_tests)

one_most : (x t : ℕ) → cond (ltb x t) 1 0 ≤ 1
one_most x t = grind (arith, nat_tests)

count_most : (g : ℕ → ℕ) (t n : ℕ) → count g t n ≤ n
count_most g t zero = omega arith
count_most g t (suc n) = omega (arith, count_most g t n, one_most (g n) t)

count_wider : (g : ℕ → ℕ) (s t n : ℕ) → s ≤ t → count g s n ≤ count g t n
count_wider g s t zero le = omega arith
count_wider g s t (suc n) le = omega (arith, count_wider g s t n le, one_more (g n) s t le)

count_more : (g : ℕ → ℕ) (s t n x : ℕ) → x < n → s ≤ g x → g x < t → count g s n + 1 ≤ count g t n
count_more g s t zero x below from to = absurd (omega arith)
count_more g s t (suc n) x below from to = elim (cases_eq x n) [
  | inl same ↦ search (rules, count_wider, one_past, one_below)
  | inr other ↦ omega (arith, count_more g s t n x (omega arith) from to, one_more (g n) s t (omega arith))
]

-- ---- no least weight is more than a walk through all nodes can weigh

-- the first step of a walk of least weight, and what is left of it
record Begins (n : ℕ) (edges : List Edge) (inside : ℕ → Bool) (v a w : ℕ) : Type 0 where
  next : ℕ
  rest : ℕ
  here : a < n
  below : next < n
  least : IsLeastWeight edges inside next v rest
  less : rest < w
  near : w ≤ rest + MAX_WEIGHT

module _ (n : ℕ) (edges : List Edge) (all : All (IsEdge n) edges) (inside : ℕ → Bool) (v : ℕ) where
  begins_with : (a w : ℕ) → 0 < w → IsLeastWeight edges inside a v w → (steps : List Step)
      → IsWalk edges inside a steps v → weight_of steps ≡ w → Begins n edges inside v a w
  begins_with a w some least [] walk sum = absurd (omega arith)
  begins_with a w some least (step ∷ steps) walk sum =
      let edge = join_edge n edges a step.node step.weight all walk.1 in
      let further = least_within n edges inside step.node v (weight_of steps + 1) all steps walk.2 (omega arith) in
      let on = least.least (step ∷ further.attained.steps) (walk.0, walk.1, further.attained.walk) in
      record {
        next = step.node;
        rest = first_passing (walk_weighs edges inside step.node v) (weight_of steps + 1) 0;
        here = edge.0;
        below = edge.1;
        least = further;
        less = omega (arith, further.least steps walk.2, edge.2.positive);
        near = omega (arith, on, further.attained.sum, edge.2.light);
      }

  begins : (a w : ℕ) → 0 < w → IsLeastWeight edges inside a v w → Begins n edges inside v a w
  begins a w some least = begins_with a w some least least.attained.steps least.attained.walk least.attained.sum

  -- the least weight from a node, where it is less than the most
  abbrev found : ℕ → ℕ → ℕ
  found most x = first_passing (walk_weighs edges inside x v) most 0

  found_is : (most x w : ℕ) → w < most → IsLeastWeight edges inside x v w → found most x ≡ w
  found_is most x w lt least =
      least_weight_one edges inside x v (found most x) w
      (least_within n edges inside x v most all least.attained.steps least.attained.walk
      (omega (arith, least.attained.sum)))
      least

  -- one node more is nearer than a node than is nearer than the next on its way
  one_nearer : (most a w : ℕ) → w < most → 0 < w → IsLeastWeight edges inside a v w
      → (g : Begins n edges inside v a w) × (count (found most) g.rest n + 1 ≤ count (found most) w n)
  one_nearer most a w lt some least =
      let g = begins a w some least in
      let at_next = found_is most g.next g.rest (omega (arith, g.less)) g.least in
      (g, count_more (found most) g.rest w n g.next g.below (omega (arith, at_next)) (omega (arith, at_next, g.less)))

  -- from a node that is farther than k edges can be, more than k nodes are nearer
  nearer : (most k a w : ℕ) → w < most → k * MAX_WEIGHT < w → IsLeastWeight edges inside a v w
      → k + 1 ≤ count (found most) w n
  nearer most zero a w lt far least = omega (arith, (one_nearer most a w lt (omega arith) least).1)
  nearer most (suc k) a w lt far least =
      let more = one_nearer most a w lt (omega arith) least in
      let g = more.0 in
      omega (arith, more.1, nearer most k g.next g.rest (omega (arith, g.less)) (omega (arith, g.near)) g.least)

  pub bounded : (a w : ℕ) → IsLeastWeight edges inside a v w → w ≤ (n - 1) * MAX_WEIGHT
  bounded a w least = elim (cases_lt ((n - 1) * MAX_WEIGHT) w) [
    | inr le ↦ le
    | inl far ↦
        let g = begins a w (omega arith) least in
        let at_a = found_is (w + 1) a w (omega arith) least in
        absurd (omega (
          arith,
          g.here,
          nearer (w + 1) (n - 1) a w (omega arith) far least,
          count_more (found (w + 1)) w (w + 1) n a g.here (omega (arith, at_a)) (omega (arith, at_a)),
          count_most (found (w + 1)) (w + 1) n,
        ))
  ]

-- ---- the laws

pub is_bounded : LeastWeightsAreBounded
is_bounded n edges inside u v w all least = bounded n edges all inside v u w least

pub is_found : LeastWeightsAreFound
is_found network inside u v limits reached =
    let least = least_within network.nodes network.edges inside u v (weight_of reached.steps + 1) limits.edges
    reached.steps reached.walk (omega arith) in
    least_within network.nodes network.edges inside u v (network.nodes * MAX_WEIGHT) limits.edges
    least.attained.steps least.attained.walk
    (omega (
      arith,
      least.attained.sum,
      bounded network.nodes network.edges limits.edges inside v u _ least,
      limits.positive,
    ))
