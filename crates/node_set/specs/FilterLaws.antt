-- Laws of filters of lists of numbers: what is left, in what order, and how much.
-- Key laws: `has-filter` (who is left), `filter_twice` (a filter of a filter), `filter_halves`
-- (what is kept and what isn't make the whole), `ascending-filter`.
use Rattle.std.proofs.Common.{◌≡◌, ◌⊎◌, inl, inr, ℕ, suc, ◌+◌, ◌<◌, ◌≤◌, Bool, true, false, cond, not, ◌&&◌, List, [], ◌∷◌, length, filter, refl, sym, ◌∙◌, ap, subst, arith}
use Rattle.std.specs.Prelude.{◌==◌}
use Rattle.std.proofs.lemmas.Bool.{cases_Bool, false≢true, eqb-true, or_cases, or_right}
use Rattle.node_set.specs.Ascending.{has, IsBelowAll, IsAscending}
use Rattle.node_set.specs.SetLaws.{has_head}

-- ---- what a filter keeps

has-cond : (b : Bool) (x y : ℕ) (xs : List ℕ) → has x (cond b (y ∷ xs) xs) ≡ true
    → ((x ≡ y) × (b ≡ true)) ⊎ (has x xs ≡ true)
has-cond true x y xs h = elim (or_cases (x == y) (has x xs) h)
    [ inl e ↦ inl (eqb-true x y e, refl) | inr later ↦ inr later ]
has-cond false x y xs h = inr h

-- what is left passes, and was there
pub filter_keeps : (p : ℕ → Bool) (x : ℕ) (xs : List ℕ) → has x (filter p xs) ≡ true
    → (has x xs ≡ true) × (p x ≡ true)
filter_keeps p x [] h = absurd (false≢true h)
filter_keeps p x (y ∷ ys) h =
    elim (has-cond (p y) x y (filter p ys) h) [
      | inl here ↦ (
        subst (λ (n : ℕ). has n (y ∷ ys) ≡ true) (sym here.0)
            (has_head y ys),
        ap p here.0 ∙ here.1,
      )
      | inr later ↦ let w : (has x ys ≡ true) × (p x ≡ true) = filter_keeps p x ys later in
          (or_right (x == y) (has x ys) w.0, w.1)
    ]

cond-has : (b : Bool) (x y : ℕ) (xs : List ℕ) → has x xs ≡ true → has x (cond b (y ∷ xs) xs) ≡ true
cond-has true x y xs h = or_right (x == y) (has x xs) h
cond-has false x y xs h = h

cond_has_head : (b : Bool) (y : ℕ) (xs : List ℕ) → b ≡ true → has y (cond b (y ∷ xs) xs) ≡ true
cond_has_head b y xs e = rw e (has_head y xs)

-- what passes is left
pub filter-has : (p : ℕ → Bool) (x : ℕ) (xs : List ℕ) → has x xs ≡ true → p x ≡ true
    → has x (filter p xs) ≡ true
filter-has p x [] h e = absurd (false≢true h)
filter-has p x (y ∷ ys) h e =
    elim (or_cases (x == y) (has x ys) h) [
      | inl here ↦ let same : x ≡ y = eqb-true x y here
          in rw same (cond_has_head (p y) y (filter p ys)
          (subst (λ (n : ℕ). p n ≡ true) same e))
      | inr later ↦ cond-has (p y) x y (filter p ys) (filter-has p x ys later e)
    ]

-- who is left
pub has-filter : (p : ℕ → Bool) (x : ℕ) (xs : List ℕ) → has x (filter p xs) ≡ (has x xs && p x)
has-filter p x xs = at (has x xs) (p x) refl refl
  where
    at : (b c : Bool) → has x xs ≡ b → p x ≡ c → has x (filter p xs) ≡ (b && c)
    at true true e f = filter-has p x xs e f
    at true false e f = elim (cases_Bool (has x (filter p xs)))
        [ inl kept ↦ absurd (false≢true (sym f ∙ (filter_keeps p x xs kept).1)) | inr gone ↦ gone ]
    at false c e f = elim (cases_Bool (has x (filter p xs)))
        [ inl kept ↦ absurd (false≢true (sym e ∙ (filter_keeps p x xs kept).0)) | inr gone ↦ gone ]

-- two tests that agree on the list
pub filter_same : (p q : ℕ → Bool) (xs : List ℕ) → ((x : ℕ) → has x xs ≡ true → p x ≡ q x)
    → filter p xs ≡ filter q xs
filter_same p q [] same = refl
filter_same p q (y ∷ ys) same =
    rw (same y (has_head y ys), filter_same p q ys (λ x h. same x (or_right (x == y) (has x ys) h)))
    refl

-- a filter of a filter
pub filter_twice : (p q : ℕ → Bool) (xs : List ℕ)
    → filter p (filter q xs) ≡ filter (λ x. q x && p x) xs
filter_twice p q [] = refl
filter_twice p q (y ∷ ys) = at (q y) (p y) refl (filter_twice p q ys)
  where
    at : (c b : Bool) → p y ≡ b → filter p (filter q ys) ≡ filter (λ x. q x && p x) ys →
        filter p (cond c (y ∷ filter q ys) (filter q ys)) ≡ cond (c && b)
        (y ∷ filter (λ x. q x && p x) ys) (filter (λ x. q x && p x) ys)
    at true true e f = rw (e, f) refl
    at true false e f = rw (e, f) refl
    at false b e f = f

-- where p follows from q on the list, filtering by q first changes nothing
pub filter_within : (p q : ℕ → Bool) (xs : List ℕ)
    → ((x : ℕ) → has x xs ≡ true → p x ≡ true → q x ≡ true) → filter p (filter q xs) ≡ filter p xs
filter_within p q xs follows = filter_twice p q xs
    ∙ filter_same (λ x. q x && p x) p xs (λ x h. at (q x) (p x) (follows x h))
  where
    at : (c b : Bool) → (b ≡ true → c ≡ true) → c && b ≡ b
    at true b f = refl
    at false true f = f refl
    at false false f = refl

-- a filter keeps just its own members
pub filter_own : (p : ℕ → Bool) (xs : List ℕ) → filter p xs ≡ filter (λ x. has x (filter p xs)) xs
filter_own p xs = filter_same p (λ x. has x (filter p xs)) xs (λ x h. at x h (p x) refl)
  where
    at : (x : ℕ) → has x xs ≡ true → (b : Bool) → p x ≡ b → p x ≡ has x (filter p xs)
    at x h true e = e ∙ sym (filter-has p x xs h e)
    at x h false e = e ∙ sym (elim (cases_Bool (has x (filter p xs)))
        [ inl kept ↦ absurd (false≢true (sym e ∙ (filter_keeps p x xs kept).1)) | inr gone ↦ gone ])

-- ---- how much

-- what passes and what fails is all
pub filter_halves : (p : ℕ → Bool) (xs : List ℕ)
    → length (filter p xs) + length (filter (λ x. not (p x)) xs) ≡ length xs
filter_halves p [] = refl
filter_halves p (y ∷ ys) = at (p y) (filter_halves p ys)
  where
    at : (b : Bool) → length (filter p ys) + length (filter (λ x. not (p x)) ys) ≡ length ys →
        length (cond b (y ∷ filter p ys) (filter p ys)) + length
        (cond (not b) (y ∷ filter (λ x. not (p x)) ys) (filter (λ x. not (p x)) ys)) ≡ suc
        (length ys)
    at true e = omega arith
    at false e = omega arith

-- no more are left than there were
pub filter_fewer : (p : ℕ → Bool) (xs : List ℕ) → length (filter p xs) ≤ length xs
filter_fewer p xs = omega (arith, filter_halves p xs)

-- a weaker test keeps no fewer
pub filter_more : (p q : ℕ → Bool) (xs : List ℕ)
    → ((x : ℕ) → has x xs ≡ true → p x ≡ true → q x ≡ true)
    → length (filter p xs) ≤ length (filter q xs)
filter_more p q xs follows = subst (λ (l : List ℕ). length l ≤ length (filter q xs))
    (filter_within p q xs follows) (filter_fewer p (filter q xs))

-- a list with a member has a length
pub some_length : (x : ℕ) (xs : List ℕ) → has x xs ≡ true → 0 < length xs
some_length x [] h = absurd (false≢true h)
some_length x (y ∷ ys) h = omega arith

-- ---- order

below_filter : (p : ℕ → Bool) (v : ℕ) (xs : List ℕ) → IsBelowAll v xs → IsBelowAll v (filter p xs)
below_filter p v [] all = tt
below_filter p v (y ∷ ys) all = at (p y) (below_filter p v ys all.1)
  where
    at : (b : Bool) → IsBelowAll v (filter p ys)
        → IsBelowAll v (cond b (y ∷ filter p ys) (filter p ys))
    at true rest = (all.0, rest)
    at false rest = rest

-- what is left ascends
pub ascending-filter : (p : ℕ → Bool) (xs : List ℕ) → IsAscending xs → IsAscending (filter p xs)
ascending-filter p [] all = tt
ascending-filter p (y ∷ ys) all = at (p y) (ascending-filter p ys all.1) (below_filter p y ys all.0)
  where
    at : (b : Bool) → IsAscending (filter p ys) → IsBelowAll y (filter p ys)
        → IsAscending (cond b (y ∷ filter p ys) (filter p ys))
    at true rest below = (below, rest)
    at false rest below = rest
