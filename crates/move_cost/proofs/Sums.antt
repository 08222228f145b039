-- Sums over numbers from one on.
use Rattle.std.proofs.lemmas.Bool.Decides.{nat_tests}
use Rattle.std.proofs.Common.{◌≡◌, ℕ, zero, suc, ◌+◌, ◌*◌, ◌^◌, ◌<◌, ◌≤◌, Bool, true, false, cond, List, [], ◌∷◌, map, refl, sym, ap, ◌∙◌, arith}
use Rattle.std.specs.Prelude.{sum_by}
use Rattle.std.proofs.Math.Nat.{mul-add}
use Rattle.std.proofs.lemmas.List.Sums.{sum_by-cons}
use Rattle.node_set.specs.Ascending.{sift}

-- the sum of what a function gives of so many numbers from one on
abbrev pub sum_from : (ℕ → ℕ) → ℕ → ℕ → ℕ
sum_from f first zero = 0
sum_from f first (suc k) = f first + sum_from f (suc first) k

pub sum-le : (f h : ℕ → ℕ) (first k : ℕ) → ((i : ℕ) → first ≤ i → i < first + k → f i ≤ h i)
    → sum_from f first k ≤ sum_from h first k
sum-le f h first zero le = omega arith
sum-le f h first (suc k) le =
    grind (arith, nat_tests, sum-le f h (suc first) k (λ i low high. le i (omega arith) (omega arith)))

pub sum-add : (f h : ℕ → ℕ) (first k : ℕ)
    → sum_from (λ i. f i + h i) first k ≡ sum_from f first k + sum_from h first k
sum-add f h first zero = refl
sum-add f h first (suc k) = omega (arith, sum-add f h (suc first) k)

pub sum-times : (m : ℕ) (f : ℕ → ℕ) (first k : ℕ) → sum_from (λ i. m * f i) first k ≡ m * sum_from f first k
sum-times m f first zero = omega arith
sum-times m f first (suc k) =
    omega (arith, sum-times m f (suc first) k, mul-add m (f first) (sum_from f (suc first) k))

pub sum-same : (w first k : ℕ) → sum_from (λ i. w) first k ≡ k * w
sum-same w first zero = omega arith
sum-same w first (suc k) = let e : suc k * w ≡ w + k * w = omega arith in omega (arith, sum-same w (suc first) k, e)

pub sum-split : (f : ℕ → ℕ) (first j k : ℕ)
    → sum_from f first (j + k) ≡ sum_from f first j + sum_from f (first + j) k
sum-split f first zero k =
    grind arith
sum-split f first (suc j) k =
    let e : suc j + k ≡ suc (j + k) = omega arith in
    let g : first + suc j ≡ suc first + j = omega arith in
    rw (e, g) (omega (arith, sum-split f (suc first) j k))

-- powers of two
pub sum-powers : (first k : ℕ) → sum_from (λ i. 2 ^ i) first k + 2 ^ first ≡ 2 ^ (first + k)
sum-powers first zero = let e : first + 0 ≡ first = omega arith in rw e (omega arith)
sum-powers first (suc k) =
    grind (arith, nat_tests, sum-powers (suc first) k)

-- what passes a test sums to no more than all
pub sum-sift : (f : ℕ → ℕ) (test : ℕ → Bool) (first k : ℕ)
    → sum_by f (sift test first k) ≤ sum_from f first k
sum-sift f test first zero = omega arith
sum-sift f test first (suc k) = at_test (test first) (sum-sift f test (suc first) k)
  where
    at_test : (b : Bool) → sum_by f (sift test (suc first) k) ≤ sum_from f (suc first) k
        → sum_by f (cond b (first ∷ sift test (suc first) k) (sift test (suc first) k))
        ≤ f first + sum_from f (suc first) k
    at_test true h = omega (arith, sum_by-cons f first (sift test (suc first) k), h)
    at_test false h = omega (arith, h)

-- a sum over a list that is mapped, and one of nothing
pub sum-mapped : {A B : Type 0} (f : B → ℕ) (g : A → B) (xs : List A)
    → sum_by f (map g xs) ≡ sum_by (λ x. f (g x)) xs
sum-mapped f g [] = refl
sum-mapped f g (x ∷ xs) =
    sum_by-cons f (g x) (map g xs)
    ∙ (ap (λ s. f (g x) + s) (sum-mapped f g xs) ∙ sym (sum_by-cons (λ y. f (g y)) x xs))

pub sum-none : {A : Type 0} (xs : List A) → sum_by (λ x. 0) xs ≡ 0
sum-none [] = refl
sum-none (x ∷ xs) = sum_by-cons (λ y. 0) x xs ∙ omega (arith, sum-none xs)
