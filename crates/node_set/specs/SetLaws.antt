-- Laws of sets as ascending lists: who is in an insertion and in a union, what order they keep, and
-- which numbers of a range pass a test. Key laws: `same_members` (an ascending list is determined
-- by its members), `has-union`, `has-append`, `share_means`, `below-has`, `has-passing` (a number
-- of the range is there just where it passes), `passing_over` (beyond the range there is none),
-- `passing_takes` and `passing_skips` (one number more).
use Rattle.std.proofs.Common.{◌≡◌, inl, inr, ℕ, zero, suc, ◌+◌, zero-add, add-zero, add-one, ◌<◌, ◌≤◌, Bool, true, false, cond, ◌||◌, ◌↔◌, List, [], ◌∷◌, ◌++◌, length, refl, sym, ◌∙◌, ap, subst, arith}
use Rattle.std.specs.Prelude.{◌==◌, slice_index_or, slice_index}
use Rattle.std.proofs.lemmas.Bool.Decides.{nat_tests}
use Rattle.std.proofs.lemmas.Bool.{eqb-true, eq-eqb, or_cases, or_left, or_right, false≢true, cases_order, cases_lt, cases_eq, cases_Bool, ne_eqb, lt-ltb, le-ltb}
use Rattle.std.proofs.lemmas.List.{append-nil}
use Rattle.node_set.specs.Ascending.{has, IsBelowAll, IsAscending, with_number, union, share, AllBelow, sift}
use Rattle.node_set.specs.Nodes.{Nodes, AreNodes}

-- ---- members

-- who is in an insertion
pub has-inserted : (x v : ℕ) (xs : List ℕ) → has x (with_number v xs) ≡ (x == v || has x xs)
has-inserted x v [] = refl
has-inserted x v (y ∷ ys) = grind (arith, nat_tests, has-inserted x v ys)

-- who is in a union
pub has-union : (x : ℕ) (xs ys : List ℕ) → has x (union xs ys) ≡ (has x xs || has x ys)
has-union x [] ys = refl
has-union x (z ∷ zs) ys = grind (
  arith,
  nat_tests,
  has-inserted x z
      (union zs ys),
  has-union x zs ys,
)

below-inserted : (x v : ℕ) (xs : List ℕ) → x < v → IsBelowAll x xs → IsBelowAll x (with_number v xs)
below-inserted x v [] h all = (h, tt)
below-inserted x v (y ∷ ys) h all = grind (arith, nat_tests, below-inserted x v ys h all.1)

-- what is below all of a list stays so where a lower number is taken
pub below_weaker : (x y : ℕ) (ys : List ℕ) → x < y → IsBelowAll y ys → IsBelowAll x ys
below_weaker x y [] h all = tt
below_weaker x y (z ∷ zs) h all = (omega (arith, all.0), below_weaker x y zs h all.1)

-- an insertion ascends
pub ascending-inserted : (v : ℕ) (xs : List ℕ) → IsAscending xs → IsAscending (with_number v xs)
ascending-inserted v [] all = (tt, tt)
ascending-inserted v (y ∷ ys) all =
    elim (cases_order v y) [
      | inl same ↦ rw (le-ltb v y (omega arith), eq-eqb v y same) all
      | inr (inl lower) ↦ rw (lt-ltb v y lower) ((lower, below_weaker v y ys lower all.0), all)
      | inr (inr higher) ↦ rw (le-ltb v y (omega arith), ne_eqb v y (λ e. omega arith))
          (below-inserted y v ys higher all.0, ascending-inserted v ys all.1)
    ]

-- a union ascends
pub ascending-union : (xs ys : List ℕ) → IsAscending ys → IsAscending (union xs ys)
ascending-union [] ys all = all
ascending-union (x ∷ xs) ys all = ascending-inserted x (union xs ys) (ascending-union xs ys all)

-- a number below all of a list is below each
pub below_each : (x : ℕ) (xs : List ℕ) (k : ℕ) → IsBelowAll x xs → k < length xs
    → x < slice_index xs k
below_each x [] k below short = absurd (omega arith)
below_each x (y ∷ ys) zero below short = below.0
below_each x (y ∷ ys) (suc k) below short = below_each x ys k below.1 (omega arith)

-- the numbers of an ascending list rise with their places
pub place-rises : (xs : List ℕ) (i j : ℕ) → IsAscending xs → i < j → j < length xs
    → slice_index xs i < slice_index xs j
place-rises [] i j ascending less short = absurd (omega (arith, short))
place-rises (x ∷ xs) zero zero ascending less short = absurd (omega (arith, less))
place-rises (x ∷ xs) zero (suc j) ascending less short =
    below_each x xs j ascending.0 (omega (arith, short))
place-rises (x ∷ xs) (suc i) zero ascending less short = absurd (omega (arith, less))
place-rises (x ∷ xs) (suc i) (suc j) ascending less short =
    place-rises xs i j ascending.1 (omega (arith, less)) (omega (arith, short))

-- and don't fall from a place to itself
pub place-stays_or_rises : (xs : List ℕ) (i j : ℕ) → IsAscending xs → i ≤ j → j < length xs
    → slice_index xs i ≤ slice_index xs j
place-stays_or_rises xs i j ascending le short = elim (cases_lt i j) [
  | inl less ↦ omega (arith, place-rises xs i j ascending less short)
  | inr same ↦
      let e : i ≡ j = omega (arith, le, same) in omega (arith, ap (λ n. slice_index xs n) e)
]

-- who is in two lists one after the other
pub has-append : (x : ℕ) (xs ys : List ℕ) → has x (xs ++ ys) ≡ (has x xs || has x ys)
has-append x [] ys = refl
has-append x (z ∷ zs) ys = at (x == z) (has-append x zs ys)
  where
    at : (b : Bool) → has x (zs ++ ys) ≡ (has x zs || has x ys)
        → (b || has x (zs ++ ys)) ≡ ((b || has x zs) || has x ys)
    at true h = refl
    at false h = h

-- ---- an ascending list is determined by its members

not_in : (x y : ℕ) (ys : List ℕ) → x ≤ y → IsBelowAll y ys → has x ys ≡ false
not_in x y [] h all = refl
not_in x y (z ∷ zs) h all = grind (arith, nat_tests, not_in x y zs h all.1, all.0)

-- the first number is a member
pub has_head : (x : ℕ) (xs : List ℕ) → has x (x ∷ xs) ≡ true
has_head x xs = grind (arith, nat_tests)

-- below the least number there is none
rest_same : (x : ℕ) (xs ys : List ℕ) → IsBelowAll x xs → IsBelowAll x ys
    → ((z : ℕ) → has z (x ∷ xs) ≡ has z (x ∷ ys)) → (z : ℕ) → has z xs ≡ has z ys
rest_same x xs ys a b same z = grind (arith, nat_tests, same z, not_in z x xs, not_in z x ys)

-- ascending lists with the same members are the same
pub same_members : (xs ys : List ℕ) → IsAscending xs → IsAscending ys
    → ((x : ℕ) → has x xs ≡ has x ys) → xs ≡ ys
same_members [] [] a b same = refl
same_members [] (y ∷ ys) a b same = absurd (false≢true (same y ∙ has_head y ys))
same_members (x ∷ xs) [] a b same = absurd (false≢true (sym (same x) ∙ has_head x xs))
same_members (x ∷ xs) (y ∷ ys) a b same =
    elim (cases_order x y) [
      | inl e ↦ let tails : xs ≡ ys = same_members xs ys a.1 b.1
          (rest_same x xs ys a.0 (subst (λ (n : ℕ). IsBelowAll n ys) (sym e) b.0)
          (λ z. subst (λ (n : ℕ). has z (x ∷ xs) ≡ has z (n ∷ ys)) (sym e) (same z)))
          in cc
      | inr (inl lower) ↦ absurd (false≢true
          (sym (not_in x x (y ∷ ys) (omega arith) (lower, below_weaker x y ys lower b.0))
          ∙ (sym (same x) ∙ has_head x xs)))
      | inr (inr higher) ↦ absurd (false≢true
          (sym (not_in y y (x ∷ xs) (omega arith) (higher, below_weaker y x xs higher a.0))
          ∙ (same y ∙ has_head y ys)))
    ]

-- ---- sharing

-- what is in both lists is shared
pub share_from : (x : ℕ) (xs ys : List ℕ) → has x xs ≡ true → has x ys ≡ true → share xs ys ≡ true
share_from x [] ys a b = absurd (false≢true a)
share_from x (z ∷ zs) ys a b =
    elim (or_cases (x == z) (has x zs) a) [
      | inl e ↦ or_left (has z ys) (share zs ys)
          (subst (λ (n : ℕ). has n ys ≡ true) (eqb-true x z e) b)
      | inr later ↦ or_right (has z ys) (share zs ys) (share_from x zs ys later b)
    ]

-- what is shared is in both
pub share_gives : (xs ys : List ℕ) → share xs ys ≡ true → (x : ℕ) × (has x xs ≡ true)
    × (has x ys ≡ true)
share_gives [] ys h = absurd (false≢true h)
share_gives (z ∷ zs) ys h =
    elim (or_cases (has z ys) (share zs ys) h) [
      | inl here ↦ (z, has_head z zs, here)
      | inr later ↦ let w : (x : ℕ) × (has x zs ≡ true) × (has x ys ≡ true) =
          share_gives zs ys later in
          (w.0, or_right (w.0 == z) (has w.0 zs) w.1, w.2)
    ]

-- two lists share a number just where some number is in both
pub share_means : (xs ys : List ℕ) → (share xs ys ≡ true) ↔
    ((x : ℕ) × (has x xs ≡ true) × (has x ys ≡ true))
share_means xs ys = (share_gives xs ys, λ w. share_from w.0 xs ys w.1 w.2)

-- ---- bounds

-- each member is below what all are below
pub below-has : (n x : ℕ) (xs : List ℕ) → AllBelow n xs → has x xs ≡ true → x < n
below-has n x [] all h = absurd (false≢true h)
below-has n x (y ∷ ys) all h =
    elim (or_cases (x == y) (has x ys) h)
    [ inl e ↦ omega (arith, eqb-true x y e, all.0) | inr later ↦ below-has n x ys all.1 later ]

-- and where each member is below a number, all are
pub below_from_has : (n : ℕ) (xs : List ℕ) → ((x : ℕ) → has x xs ≡ true → x < n) → AllBelow n xs
below_from_has n [] all = tt
below_from_has n (y ∷ ys) all = (
  all y (has_head y ys),
  below_from_has n ys
      (λ x h. all x (or_right (x == y) (has x ys) h)),
)

-- ---- the numbers that pass a test

-- no number below the range is there
pub passing_under : (test : ℕ → Bool) (x v k : ℕ) → x < v → has x (sift test v k) ≡ false
passing_under test x v zero h = refl
passing_under test x v (suc k) h = at (test v) (passing_under test x (suc v) k (omega arith))
  where
    at : (b : Bool) → has x (sift test (suc v) k) ≡ false
        → has x (cond b (v ∷ sift test (suc v) k) (sift test (suc v) k)) ≡ false
    at true rest = grind (arith, nat_tests)
    at false rest = rest

-- nor one beyond it
pub passing_over : (test : ℕ → Bool) (x v k : ℕ) → v + k ≤ x → has x (sift test v k) ≡ false
passing_over test x v zero h = refl
passing_over test x v (suc k) h = at (test v) (passing_over test x (suc v) k (omega arith))
  where
    at : (b : Bool) → has x (sift test (suc v) k) ≡ false
        → has x (cond b (v ∷ sift test (suc v) k) (sift test (suc v) k)) ≡ false
    at true rest = grind (arith, nat_tests)
    at false rest = rest

-- the first of the numbers, and the others
passes_here : (b : Bool) (x : ℕ) (rest : List ℕ) → has x rest ≡ false
    → has x (cond b (x ∷ rest) rest) ≡ b
passes_here true x rest h = grind (arith, nat_tests)
passes_here false x rest h = h

passes_later : (b c : Bool) (x v : ℕ) (rest : List ℕ) → v < x → has x rest ≡ c
    → has x (cond b (v ∷ rest) rest) ≡ c
passes_later true c x v rest h e = grind (arith, nat_tests)
passes_later false c x v rest h e = e

-- a number of the range is there just where it passes
pub has-passing : (test : ℕ → Bool) (x v k : ℕ) → v ≤ x → x < v + k → has x (sift test v k) ≡ test x
has-passing test x v zero h below = absurd (omega arith)
has-passing test x v (suc k) h below =
    elim (cases_lt v x) [
      | inl later ↦ passes_later (test v) (test x) x v (sift test (suc v) k) later
          (has-passing test x (suc v) k (omega arith) (omega arith))
      | inr here ↦
          let e : x ≡ v = omega arith in
          subst (λ (n : ℕ). has x (sift test n (suc k)) ≡ test x) e
          (passes_here (test x) x (sift test (suc x) k)
          (passing_under test x (suc x) k (omega arith)))
    ]

below_passing : (test : ℕ → Bool) (x v k : ℕ) → x < v → IsBelowAll x (sift test v k)
below_passing test x v zero h = tt
below_passing test x v (suc k) h = at (test v) (below_passing test x (suc v) k (omega arith))
  where
    at : (b : Bool) → IsBelowAll x (sift test (suc v) k)
        → IsBelowAll x (cond b (v ∷ sift test (suc v) k) (sift test (suc v) k))
    at true rest = (h, rest)
    at false rest = rest

-- the numbers that pass ascend
pub ascending-passing : (test : ℕ → Bool) (v k : ℕ) → IsAscending (sift test v k)
ascending-passing test v zero = tt
ascending-passing test v (suc k) = at (test v) (ascending-passing test (suc v) k)
    (below_passing test v (suc v) k (omega arith))
  where
    at : (b : Bool) → IsAscending (sift test (suc v) k) → IsBelowAll v (sift test (suc v) k)
        → IsAscending (cond b (v ∷ sift test (suc v) k) (sift test (suc v) k))
    at true rest all = (all, rest)
    at false rest all = rest

-- one number more or not
pub length-cond : (b : Bool) (x : ℕ) (rest : List ℕ)
    → length (cond b (x ∷ rest) rest) ≡ cond b 1 0 + length rest
length-cond true x rest = omega arith
length-cond false x rest = omega arith

-- the count of a longer range
pub length-passing-add : (test : ℕ → Bool) (v j k : ℕ)
    → length (sift test v (j + k)) ≡ length (sift test v j) + length (sift test (v + j) k)
length-passing-add test v zero k = rw (zero-add k, add-zero v) (omega arith)
length-passing-add test v (suc j) k =
    let e : suc j + k ≡ suc (j + k) = omega arith in
    let f : v + suc j ≡ suc v + j = omega arith in
    rw (
      e,
      f,
      length-cond (test v) v (sift test (suc v) (j + k)),
      length-cond (test v) v
          (sift test (suc v) j),
    ) (omega (arith, length-passing-add test (suc v) j k))

-- at most all of the range pass
pub length-passing-le : (test : ℕ → Bool) (v k : ℕ) → length (sift test v k) ≤ k
length-passing-le test v zero = omega arith
length-passing-le test v (suc k) = omega (
  arith,
  length-cond (test v) v
      (sift test (suc v) k),
  length-passing-le test (suc v) k,
  at (test v),
)
  where
    at : (b : Bool) → cond b 1 0 ≤ 1
    at true = omega arith
    at false = omega arith

-- two tests that agree on the range
pub passing_same : (p q : ℕ → Bool) (v k : ℕ) → ((x : ℕ) → v ≤ x → x < v + k → p x ≡ q x)
    → sift p v k ≡ sift q v k
passing_same p q v zero same = refl
passing_same p q v (suc k) same = rw (
  same v (omega arith) (omega arith),
  passing_same p q (suc v) k
      (λ x h below. same x (omega arith) (omega arith)),
) refl

-- ---- one number more

-- the last number of a longer range
pub passing_grows : (test : ℕ → Bool) (v k : ℕ)
    → sift test v (suc k) ≡ sift test v k ++ cond (test (v + k)) ((v + k) ∷ []) []
passing_grows test v zero = ap (λ i. cond (test i) (i ∷ []) []) (sym (add-zero v))
passing_grows test v (suc k) =
    grown (test v) (sift test (suc v) (suc k)) (sift test (suc v) k)
    (passing_grows test (suc v) k ∙ ap (λ i. sift test (suc v) k ++ cond (test i) (i ∷ []) [])
    moved)
  where
    moved : suc v + k ≡ v + suc k
    moved = omega arith

    grown : (b : Bool) (more less : List ℕ)
        → more ≡ less ++ cond (test (v + suc k)) ((v + suc k) ∷ []) []
        → cond b (v ∷ more) more ≡ cond b (v ∷ less) less ++ cond (test (v + suc k))
        ((v + suc k) ∷ []) []
    grown true more less is = ap (λ xs. v ∷ xs) is
    grown false more less is = is

-- the next number passes
pub passing_takes : (test : ℕ → Bool) (i : ℕ) → test i ≡ true
    → sift test 0 (i + 1) ≡ sift test 0 i ++ i ∷ []
passing_takes test i passes =
    ap (sift test 0) (add-one i) ∙ passing_grows test 0 i
    ∙ ap (λ j. sift test 0 i ++ cond (test j) (j ∷ []) []) (zero-add i)
    ∙ ap (λ b. sift test 0 i ++ cond b (i ∷ []) []) passes

-- the next number doesn't pass
pub passing_skips : (test : ℕ → Bool) (i : ℕ) → test i ≡ false → sift test 0 (i + 1) ≡ sift test 0 i
passing_skips test i fails =
    ap (sift test 0) (add-one i) ∙ passing_grows test 0 i
    ∙ ap (λ j. sift test 0 i ++ cond (test j) (j ∷ []) []) (zero-add i)
    ∙ ap (λ b. sift test 0 i ++ cond b (i ∷ []) []) fails ∙ append-nil (sift test 0 i)

-- the next number passes, and is inserted
pub passing_inserts : (test : ℕ → Bool) (i : ℕ) → test i ≡ true
    → with_number i (sift test 0 i) ≡ sift test 0 (i + 1)
passing_inserts test i passes =
    same_members (with_number i (sift test 0 i)) (sift test 0 (i + 1))
    (ascending-inserted i (sift test 0 i) (ascending-passing test 0 i))
    (ascending-passing test 0 (i + 1)) same
  where
    within : (x j : ℕ) → x < j → has x (sift test 0 j) ≡ test x
    within x j below = has-passing test x 0 j (omega arith) (omega arith)

    past : (x j : ℕ) → j ≤ x → has x (sift test 0 j) ≡ false
    past x j over = passing_over test x 0 j (omega arith)

    same : (x : ℕ) → has x (with_number i (sift test 0 i)) ≡ has x (sift test 0 (i + 1))
    same x = has-inserted x i (sift test 0 i) ∙ elim (cases_eq x i) [
      | inl is ↦ ap (λ b. b || has x (sift test 0 i)) (eq-eqb x i is)
          ∙ sym (within x (i + 1) (omega arith) ∙ ap test is ∙ passes)
      | inr other ↦ ap (λ b. b || has x (sift test 0 i)) (ne_eqb x i other) ∙ elim (cases_lt x i) [
        | inl below ↦ within x i below ∙ sym (within x (i + 1) (omega arith))
        | inr over ↦ past x i over ∙ sym (past x (i + 1) (omega arith))
      ]
    ]

-- ---- all the numbers of a range

-- where all pass there are as many as the range has
pub length-passing_all : (v n : ℕ) → length (sift (λ x. true) v n) ≡ n
length-passing_all v zero = refl
length-passing_all v (suc n) = omega (arith, length-passing_all (suc v) n)

-- and each stands at its place
pub passing_all-each : (v n i d : ℕ) → i < n → slice_index_or (sift (λ x. true) v n) i d ≡ v + i
passing_all-each v zero i d h = absurd (omega arith)
passing_all-each v (suc n) zero d h = omega arith
passing_all-each v (suc n) (suc i) d h = passing_all-each (suc v) n i d (omega arith) ∙ next v i
  where
    next : (v i : ℕ) → suc v + i ≡ v + suc i
    next v i = omega arith

-- an ascending list of numbers below n has at most n of them
pub few_below : (n : ℕ) (xs : List ℕ) → IsAscending xs → ((x : ℕ) → has x xs ≡ true → x < n)
    → length xs ≤ n
few_below n xs ascending below =
    subst (λ l. length l ≤ n)
    (same_members (sift (λ x. has x xs) 0 n) xs (ascending-passing (λ x. has x xs) 0 n) ascending
    (λ x. elim (cases_lt x n) [
      | inl within ↦ has-passing (λ y. has y xs) x 0 n (omega arith) (omega arith)
      | inr past ↦ passing_over (λ y. has y xs) x 0 n (omega arith)
          ∙ elim (cases_Bool (has x xs)) [
            | inl member ↦ absurd (omega (arith, below x member))
            | inr other ↦ sym other
          ]
    ])) (length-passing-le (λ x. has x xs) 0 n)

-- ---- the members of a set, one number after another

-- the members of a set, one number after another
pub all_members : (set : Nodes) → AreNodes set
    → sift (λ x. has x set.members) 0 set.room ≡ set.members
all_members set sound =
    same_members (sift (λ x. has x set.members) 0 set.room) set.members
    (ascending-passing (λ x. has x set.members) 0 set.room) sound.ascending
    (λ x. elim (cases_lt x set.room) [
      | inl below ↦ has-passing (λ y. has y set.members) x 0 set.room (omega arith) (omega arith)
      | inr past ↦ passing_over (λ y. has y set.members) x 0 set.room (omega arith)
          ∙ elim (cases_Bool (has x set.members)) [
            | inl member ↦ absurd (omega (
              arith,
              below-has set.room x set.members sound.below member,
            ))
            | inr other ↦ sym other
          ]
    ])
