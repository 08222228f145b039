-- Lists: the first number that passes a test, numbers one after another, and what is left of a list.
use Rattle.std.proofs.Common.{◌≡◌, ℕ, zero, suc, ◌+◌, ◌-◌, ◌<◌, ◌≤◌, Bool, true, false, cond, List, [], ◌∷◌, ◌++◌, Some, None, length, map, take, drop, refl, ap, ◌∙◌, arith, add-one}
use Rattle.std.proofs.Math.Seq.{drop-cons}
use Rattle.std.proofs.lemmas.List.{drop-append-le, drop-drop, get_or-map, length-drop}
use Rattle.std.proofs.lemmas.Option.{slice_get-get_or, slice_get_past}
use Rattle.std.specs.Prelude.{slice_get, get_or}
use Rattle.node_set.specs.Ascending.{sift}
use Rattle.node_set.specs.SetLaws.{length-passing_all, passing_all-each}
use Rattle.directory.specs.Courses.{highest}
use Rattle.directory.specs.StepLaws.{take-more}
use Rattle.directory.specs.Writes.{numbers_from}
use Rattle.handset.specs.StepWrites.{first_with}

-- a test of some numbers up to an end, at one of them and at the end
pub first-step : (test : ℕ → Bool) (x limit : ℕ) → x < limit → first_with test x (limit - x)
    ≡ cond (test x) (Some x) (first_with test (suc x) (limit - suc x))
first-step test x limit h = let e : limit - x ≡ suc (limit - suc x) = omega arith in ap (first_with test x) e

pub first-here : (test : ℕ → Bool) (x limit : ℕ) → x < limit → test x ≡ true → first_with test x (limit - x)
    ≡ Some x
first-here test x limit h passes = rw (first-step test x limit h, passes)

pub first-later : (test : ℕ → Bool) (x limit : ℕ) → x < limit → test x ≡ false
    → first_with test (suc x) (limit - suc x) ≡ first_with test x (limit - x)
first-later test x limit h fails = rw (first-step test x limit h, fails)

pub first-next : (test : ℕ → Bool) (x limit : ℕ) → x < limit → test x ≡ false → first_with test (x + 1) (limit -
    (x + 1)) ≡ first_with test x (limit - x)
first-next test x limit h fails = rw add-one (first-later test x limit h fails)

pub highest-here : (test : ℕ → Bool) (limit : ℕ) → 0 < limit → test (limit - 1) ≡ true → limit - 1
    ≡ highest test limit
unfolding highest
highest-here test zero h passes = absurd (omega arith)
highest-here test (suc level) h passes = grind arith

pub highest-later : (test : ℕ → Bool) (limit : ℕ) → 0 < limit → test (limit - 1) ≡ false
    → highest test (limit - 1) ≡ highest test limit
unfolding highest
highest-later test zero h fails = absurd (omega arith)
highest-later test (suc level) h fails = grind arith

pub highest-none : (test : ℕ → Bool) (limit : ℕ) → limit ≤ 0 → 0 ≡ highest test limit
unfolding highest
highest-none test zero h = refl
highest-none test (suc limit) h = absurd (omega arith)

pub numbers-from-zero : (f : ℕ → ℕ) (count k : ℕ) → k < count → get_or (map f (numbers_from 0 count)) k 0 ≡ f k
numbers-from-zero f count k h =
    get_or-map f (numbers_from 0 count) k 0 0 (omega (arith, h, length-passing_all 0 count))
    ∙ ap f (passing_all-each 0 count k 0 h ∙ omega arith)

-- the first number that passes, and all that do
pub first-inside : (test : ℕ → Bool) (x k : ℕ) {y : ℕ} → first_with test x k ≡ Some y → (x ≤ y) × (y < x + k)
first-inside test x zero h = cc
first-inside test x (suc k) {y} h =
    let later = λ (e : first_with test (suc x) k ≡ Some y). first-inside test (suc x) k e in
    grind arith

pub passing-none : (test : ℕ → Bool) (x k : ℕ) → first_with test x k ≡ None → sift test x k ≡ []
passing-none test x zero h = refl
passing-none test x (suc k) h =
    let later = λ (e : first_with test (suc x) k ≡ None). passing-none test (suc x) k e in
    grind arith

pub passing-some : (test : ℕ → Bool) (x k : ℕ) {y : ℕ} → first_with test x k ≡ Some y
    → sift test x k ≡ y ∷ sift test (suc y) (x + k - suc y)
passing-some test x zero h = cc
passing-some test x (suc k) {y} h =
    let later = λ (e : first_with test (suc x) k ≡ Some y). passing-some test (suc x) k e in
    grind arith

-- tests and functions that agree on some numbers make the same list
pub map-passing-same : {A : Type 0} (p q : ℕ → Bool) (f g : ℕ → A) (x k : ℕ)
    → ((y : ℕ) → x ≤ y → y < x + k → p y ≡ q y) → ((y : ℕ) → x ≤ y → y < x + k → f y ≡ g y)
    → map f (sift p x k) ≡ map g (sift q x k)
map-passing-same p q f g x zero same equal = refl
map-passing-same p q f g x (suc k) same equal = grind (
  arith,
  map-passing-same p q f g (suc x) k (λ y h l. same y (omega (arith, h)) (omega (arith, l)))
      (λ y h l. equal y (omega (arith, h)) (omega (arith, l))),
)

pub highest-same : (p q : ℕ → Bool) (limit : ℕ) → ((y : ℕ) → y < limit → p y ≡ q y) → highest p limit
    ≡ highest q limit
unfolding highest
highest-same p q zero same = refl
highest-same p q (suc limit) same = grind (arith, highest-same p q limit (λ y h. same y (omega (arith, h))))

-- what is left of a list: its head, and the rest
pub drop-head : {A : Type 0} (n : ℕ) (xs : List A) {y : A} {ys : List A} → drop n xs ≡ y ∷ ys → slice_get xs n ≡ Some y
drop-head n xs {y} h =
    let inside : n < length xs = omega (arith, length-drop n xs, ap length h) in
    let first = drop-cons xs n y inside in
    slice_get-get_or xs n y inside ∙ cc

pub drop-tail : {A : Type 0} (n : ℕ) (xs : List A) {y : A} {ys : List A} → drop n xs ≡ y ∷ ys → drop (suc n) xs ≡ ys
drop-tail n xs h = rw (← add-one n, ← drop-drop 1 n xs, h)

pub drop-inside : {A : Type 0} (n : ℕ) (xs : List A) {y : A} {ys : List A} → drop n xs ≡ y ∷ ys → suc n ≤ length xs
drop-inside n xs h = omega (arith, length-drop n xs, ap length h)

pub drop-none : {A : Type 0} (n : ℕ) (xs : List A) → drop n xs ≡ [] → slice_get xs n ≡ None
drop-none n xs h = slice_get_past xs n (omega (arith, length-drop n xs, ap length h))

pub drop-spent : {A : Type 0} (n : ℕ) (xs ys : List A) → n ≤ length xs → drop n xs ≡ [] → drop n (xs ++ ys) ≡ ys
drop-spent n xs ys few h = rw (drop-append-le n xs ys few, h)

pub take-next : {A : Type 0} (n : ℕ) (xs : List A) {y : A} {ys : List A} → drop n xs ≡ y ∷ ys
    → take (suc n) xs ≡ take n xs ++ y ∷ []
take-next n xs h = take-more xs n _ (drop-head n xs h)
