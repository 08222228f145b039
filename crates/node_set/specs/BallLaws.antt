-- Laws of balls, of their unions, of growth, and of the least number that passes a test.
-- Key laws: `union_means`, `next_growth_means`, `growth_leader` (the leader's ball stays),
-- `growth_size` (no growth has more balls than wait), `least_passes`, `least_first`, `least_is`.
use Rattle.std.proofs.Common.{◌≡◌, inl, inr, ℕ, zero, suc, ◌+◌, ◌<◌, ◌≤◌, Bool, ◌↔◌, true, false, cond, List, [], ◌∷◌, length, filter, map, refl, sym, ◌∙◌, ap, subst, arith}
use Rattle.std.specs.Prelude.{◌==◌, slice_index_or}
use Rattle.std.proofs.lemmas.Bool.{cases_lt, false≢true, eqb-true, ne_eqb, or_cases, or_left, or_right}
use Rattle.std.proofs.lemmas.List.{get_or-map, get_or_past, length-map}
use Rattle.node_set.specs.Ascending.{has, IsBelowAll, IsAscending, share, union}
use Rattle.node_set.specs.Nodes.{Nodes}
use Rattle.node_set.specs.Balls.{AreInside, sets, centres, ball, union_of, touches, growth, least}
use Rattle.node_set.specs.SetLaws.{few_below, has_head, has-union, ascending-union, share_from, has-passing, passing_over, length-passing_all, passing_all-each}
use Rattle.node_set.specs.FilterLaws.{filter_keeps, filter-has, filter_own, filter_fewer}

-- ---- lists of balls, and of centres

-- the ball at a place of the list
pub ball_at : (balls : List Nodes) (v : ℕ) (b : Nodes) → v < length balls
    → b ≡ slice_index_or balls v b
    → ball (sets balls) v ≡ b.members
ball_at [] v b h e = absurd (omega arith)
ball_at (c ∷ cs) zero b h e = ap (λ (n : Nodes). n.members) (sym e)
ball_at (c ∷ cs) (suc v) b h e = ball_at cs v b (omega arith) e

-- there are as many lists as sets
pub length-sets : (balls : List Nodes) → length (sets balls) ≡ length balls
length-sets [] = refl
length-sets (c ∷ cs) = ap suc (length-sets cs)

-- there are n centres
pub length-centres : (n : ℕ) → length (centres n) ≡ n
length-centres n = length-passing_all 0 n

-- each number below n is a centre
pub has_centre : (n v : ℕ) → v < n → has v (centres n) ≡ true
has_centre n v h = has-passing (λ x. true) v 0 n (omega arith) (omega arith)

-- and nothing else is
pub below_centre : (n v : ℕ) → has v (centres n) ≡ true → v < n
below_centre n v h = elim (cases_lt v n) [
  | inl below ↦ below
  | inr past ↦ absurd (false≢true (sym (passing_over (λ x. true) v 0 n (omega arith)) ∙ h))
]

-- a list with one entry for each centre, at one of them
pub get_or-map_centres : {X : Type 0} (f : ℕ → X) (n v : ℕ) (d : X) → v < n
    → slice_index_or (map f (centres n)) v d ≡ f v
get_or-map_centres f n v d h =
    get_or-map f (centres n) v 0 d (omega (arith, length-centres n))
    ∙ ap f (passing_all-each 0 n v 0 h ∙ none v)
  where
    none : (v : ℕ) → 0 + v ≡ v
    none v = omega arith

-- a list with one entry for each centre is that long
pub length-map_centres : {X : Type 0} (f : ℕ → X) (n : ℕ) → length (map f (centres n)) ≡ n
length-map_centres f n = length-map (centres n) f ∙ length-centres n

-- ---- unions

-- who is in one of the balls is in their union
pub union_has : (balls : List (List ℕ)) (x v : ℕ) (vs : List ℕ) → has v vs ≡ true
    → has x (ball balls v) ≡ true → has x (union_of balls vs) ≡ true
unfolding union_of
union_has balls x v [] h e = absurd (false≢true h)
union_has balls x v (w ∷ ws) h e =
    has-union x (ball balls w) (union_of balls ws) ∙
    elim (or_cases (v == w) (has v ws) h) [
      | inl here ↦ or_left (has x (ball balls w)) (has x (union_of balls ws))
          (subst (λ (n : ℕ). has x (ball balls n) ≡ true) (eqb-true v w here) e)
      | inr later ↦ or_right (has x (ball balls w)) (has x (union_of balls ws))
          (union_has balls x v ws later e)
    ]

-- and who is in the union is in one of the balls
pub union_from : (balls : List (List ℕ)) (x : ℕ) (vs : List ℕ) → has x (union_of balls vs) ≡ true
    → (v : ℕ) × (has v vs ≡ true) × (has x (ball balls v) ≡ true)
unfolding union_of
union_from balls x [] h = absurd (false≢true h)
union_from balls x (w ∷ ws) h =
    elim (or_cases (has x (ball balls w)) (has x (union_of balls ws))
    (sym (has-union x (ball balls w) (union_of balls ws)) ∙ h)) [
      | inl here ↦ (w, has_head w ws, here)
      | inr later ↦
          let v : (v : ℕ) × (has v ws ≡ true) × (has x (ball balls v) ≡ true) =
          union_from balls x ws later in
          (v.0, or_right (v.0 == w) (has v.0 ws) v.1, v.2)
    ]

-- a union ascends
pub ascending-union_of : (balls : List (List ℕ)) (vs : List ℕ) → IsAscending (union_of balls vs)
unfolding union_of
ascending-union_of balls [] = tt
ascending-union_of balls (w ∷ ws) =
    ascending-union (ball balls w) (union_of balls ws) (ascending-union_of balls ws)

-- the union of one ball
pub union_first : (balls : List (List ℕ)) (a : ℕ)
    → union (ball balls a) [] ≡ union_of balls (a ∷ [])
unfolding union_of
union_first balls a = refl

-- the union of more balls has what that of fewer has
pub union_more : (balls : List (List ℕ)) (x : ℕ) (vs ws : List ℕ)
    → ((v : ℕ) → has v vs ≡ true → has v ws ≡ true) → has x (union_of balls vs) ≡ true
    → has x (union_of balls ws) ≡ true
union_more balls x vs ws inside h =
    let v : (v : ℕ) × (has v vs ≡ true) × (has x (ball balls v) ≡ true) = union_from balls x vs h in
    union_has balls x v.0 ws (inside v.0 v.1) v.2

-- ---- the balls of a growth

filter_alone : (a : ℕ) (rest : List ℕ) → IsBelowAll a rest → filter (λ v. has v (a ∷ [])) rest ≡ []
filter_alone a [] below = refl
filter_alone a (y ∷ ys) below = rw (
  ne_eqb y a (λ same. omega (arith, below.0)),
  filter_alone a ys
      below.1,
) refl

-- each waiting ball holds its centre
abbrev pub HoldCentres : List (List ℕ) → List ℕ → Type 0
HoldCentres balls waiting = (v : ℕ) → has v waiting ≡ true → has v (ball balls v) ≡ true

-- the ball of a centre touches the union of balls among which it is
pub touches_own : (balls : List (List ℕ)) (v : ℕ) (vs : List ℕ) → has v vs ≡ true
    → has v (ball balls v) ≡ true → touches balls (union_of balls vs) v ≡ true
touches_own balls v vs h e = share_from v (ball balls v) (union_of balls vs) e
    (union_has balls v v vs h e)

module _ (balls : List (List ℕ)) (a : ℕ) (rest : List ℕ) where
  pub growth_waits : (j v : ℕ) → has v (growth balls (a ∷ rest) a j) ≡ true
      → has v (a ∷ rest) ≡ true
  unfolding growth
  growth_waits zero v h = elim (or_cases (v == a) false h)
      [ inl here ↦ or_left (v == a) (has v rest) here | inr none ↦ absurd (false≢true none) ]
  growth_waits (suc j) v h = (filter_keeps
      (touches balls (union_of balls (growth balls (a ∷ rest) a j))) v (a ∷ rest) h).0

  pub growth_stays : HoldCentres balls (a ∷ rest) → (j v : ℕ)
      → has v (growth balls (a ∷ rest) a j) ≡ true
      → has v (growth balls (a ∷ rest) a (suc j)) ≡ true
  unfolding growth
  growth_stays hold j v h =
      let waits : has v (a ∷ rest) ≡ true = growth_waits j v h in
      filter-has (touches balls (union_of balls (growth balls (a ∷ rest) a j))) v (a ∷ rest) waits
      (touches_own balls v (growth balls (a ∷ rest) a j) h (hold v waits))

  pub growth_leader : HoldCentres balls (a ∷ rest) → (j : ℕ)
      → has a (growth balls (a ∷ rest) a j) ≡ true
  unfolding growth
  growth_leader hold zero = has_head a []
  growth_leader hold (suc j) = growth_stays hold j a (growth_leader hold j)

  pub growth_size : (j : ℕ) → length (growth balls (a ∷ rest) a j) ≤ length (a ∷ rest)
  unfolding growth
  growth_size zero = omega arith
  growth_size (suc j) = filter_fewer (touches balls (union_of balls (growth balls (a ∷ rest) a j)))
      (a ∷ rest)

  -- the balls of a growth, picked out of the waiting ones
  pub growth_picked : IsBelowAll a rest → (j : ℕ)
      → growth balls (a ∷ rest) a j ≡ filter (λ v. has v (growth balls (a ∷ rest) a j)) (a ∷ rest)
  unfolding growth
  growth_picked below zero = rw (has_head a [], filter_alone a rest below) refl
  growth_picked below (suc j) = filter_own
      (touches balls (union_of balls (growth balls (a ∷ rest) a j))) (a ∷ rest)

-- a growth takes the waiting balls that touch the union so far
pub growth_next : (balls : List (List ℕ)) (waiting : List ℕ) (a j : ℕ)
    → growth balls waiting a (suc j) ≡ filter
    (touches balls (union_of balls (growth balls waiting a j))) waiting
unfolding growth
growth_next balls waiting a j = refl

-- before any growth there is the ball of the leader alone
pub growth_first : (balls : List (List ℕ)) (waiting : List ℕ) (a : ℕ)
    → growth balls waiting a 0 ≡ a ∷ []
unfolding growth
growth_first balls waiting a = refl

-- ---- the least number that passes

-- the least number is at most the limit
pub least_within : (test : ℕ → Bool) (limit : ℕ) → least test limit ≤ limit
unfolding least
least_within test zero = omega arith
least_within test (suc limit) = at (test 0) (least_within (λ j. test (suc j)) limit)
  where
    at : (b : Bool) → least (λ j. test (suc j)) limit ≤ limit
        → cond b 0 (suc (least (λ j. test (suc j)) limit)) ≤ suc limit
    at true h = omega arith
    at false h = omega arith

-- the least number passes, where it is below the limit
pub least_passes : (test : ℕ → Bool) (limit : ℕ) → least test limit < limit
    → test (least test limit) ≡ true
unfolding least
least_passes test zero h = absurd (omega arith)
least_passes test (suc limit) h = at (test 0) refl h (least_passes (λ j. test (suc j)) limit)
  where
    at : (b : Bool) → test 0 ≡ b → cond b 0 (suc (least (λ j. test (suc j)) limit)) < suc limit →
        (least (λ j. test (suc j)) limit < limit
        → test (suc (least (λ j. test (suc j)) limit)) ≡ true)
        → test (cond b 0 (suc (least (λ j. test (suc j)) limit))) ≡ true
    at true e less rest = e
    at false e less rest = rest (omega arith)

-- no lower number passes
pub least_first : (test : ℕ → Bool) (limit j : ℕ) → j < least test limit → test j ≡ false
unfolding least
least_first test zero j h = absurd (omega arith)
least_first test (suc limit) j h = at (test 0) refl j h (least_first (λ i. test (suc i)) limit)
  where
    at : (b : Bool) → test 0 ≡ b → (j : ℕ) → j < cond b 0 (suc (least (λ i. test (suc i)) limit)) →
        ((i : ℕ) → i < least (λ i. test (suc i)) limit → test (suc i) ≡ false) → test j ≡ false
    at true e j less rest = absurd (omega arith)
    at false e zero less rest = e
    at false e (suc j) less rest = rest j (omega arith)

-- the first number that passes is the least
pub least_is : (test : ℕ → Bool) (limit j : ℕ) → j < limit → test j ≡ true
    → ((i : ℕ) → i < j → test i ≡ false) → least test limit ≡ j
least_is test limit j h passes first =
    elim (cases_lt (least test limit) j) [
      | inl less ↦ absurd (false≢true (sym (first (least test limit) less)
          ∙ least_passes test limit (omega arith)))
      | inr more ↦ elim (cases_lt j (least test limit)) [
        | inl over ↦ absurd (false≢true (sym (least_first test limit j over) ∙ passes))
        | inr same
            ↦ omega arith
      ]
    ]

-- ---- in other words

-- who is in a union
pub union_means : (balls : List (List ℕ)) (vs : List ℕ) (x : ℕ) → (has x (union_of balls vs) ≡ true)
    ↔ ((v : ℕ) × (has v vs ≡ true) × (has x (ball balls v) ≡ true))
union_means balls vs x = (union_from balls x vs, λ w. union_has balls x w.0 vs w.1 w.2)

-- who is in the next growth
pub next_growth_means : (balls : List (List ℕ)) (waiting : List ℕ) (a j v : ℕ)
    → (has v (growth balls waiting a (suc j)) ≡ true) ↔
    ((has v waiting ≡ true) × (share (ball balls v) (union_of balls (growth balls waiting a j))
    ≡ true))
unfolding growth
next_growth_means balls waiting a j v = (
  filter_keeps (touches balls (union_of balls (growth balls waiting a j))) v waiting,
  λ w.
      filter-has (touches balls (union_of balls (growth balls waiting a j))) v waiting w.0 w.1,
)

-- ---- balls whose nodes have balls

-- it is enough to know it of the balls that there are
pub inside_from : (balls : List (List ℕ))
    → ((v x : ℕ) → v < length balls → has x (ball balls v) ≡ true → x < length balls)
    → AreInside balls
inside_from balls each v x h = elim (cases_lt v (length balls)) [
  | inl below ↦ each v x below h
  | inr past ↦ absurd (false≢true (sym (ap (has x) (get_or_past balls v [] past)) ∙ h))
]

-- then a union has no more nodes than there are balls
pub union_size : (balls : List (List ℕ)) (vs : List ℕ) → AreInside balls
    → length (union_of balls vs) ≤ length balls
union_size balls vs inside =
    few_below (length balls) (union_of balls vs) (ascending-union_of balls vs)
    (λ x h. let v = union_from balls x vs h in inside v.0 x v.2)
