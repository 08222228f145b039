-- Short laws of lists and of options that the crates above share: an entry in front of others and
-- behind others, and the last one; what an option is of which the image or the test is known.
use Rattle.std.proofs.Common.{◌≡◌, ℕ, zero, suc, ◌+◌, false, List, [], ◌∷◌, ◌++◌, Option, Some, None, length, refl, ap, arith, sym, ◌∙◌}
use Rattle.std.specs.Prelude.{slice_get, option_map, is_some, Result, Ok, SomeIff, ok_or}
use Rattle.std.specs.List.{last_or}

-- an entry in front of others stays
pub slice_get-left : {A : Type 0} (xs ys : List A) (i : ℕ) (x : A) → slice_get xs i ≡ Some x
    → slice_get (xs ++ ys) i ≡ Some x
slice_get-left [] ys i x h = cc
slice_get-left (y ∷ xs) ys zero x h = h
slice_get-left (y ∷ xs) ys (suc i) x h = slice_get-left xs ys i x h

-- an entry behind others
pub slice_get-right : {A : Type 0} (xs ys : List A) (k i : ℕ) → k ≡ length xs + i
    → slice_get (xs ++ ys) k ≡ slice_get ys i
slice_get-right [] ys k i e = ap (slice_get ys) (let s : k ≡ i = omega (arith, e) in s)
slice_get-right (x ∷ xs) ys zero i e = absurd (omega (arith, e))
slice_get-right (x ∷ xs) ys (suc k) i e = slice_get-right xs ys k i (omega (arith, e))

-- the last of a list that one more was pushed to
pub last_or-push : {A : Type 0} (o : Option A) (xs : List A) (x : A)
    → last_or o (xs ++ x ∷ []) ≡ Some x
last_or-push o [] x = refl
last_or-push o (y ∷ xs) x = last_or-push (Some y) xs x

-- what is the image of an option that holds something is the image of what it holds
pub option_map-some : {A B : Type 0} (f : A → B) (o : Option A) (y : B) → option_map f o ≡ Some y
    → (x : A) × (f x ≡ y)
option_map-some f None y h = cc
option_map-some f (Some x) y h = let e : f x ≡ y = cc in (x, e)

-- what has no image holds nothing
pub option_map-none : {A B : Type 0} (f : A → B) (o : Option A) → option_map f o ≡ None → o ≡ None
option_map-none f None h = refl
option_map-none f (Some x) h = cc

-- what is said to hold nothing holds nothing
pub is_some-none : {A : Type 0} (o : Option A) → is_some o ≡ false → o ≡ None
is_some-none None h = refl
is_some-none (Some x) h = cc

-- what a checked sum comes to
pub added : {E : Type 0} (P : Type 0) {sum most : ℕ} (r : Option ℕ) (e : E) {q : Result ℕ E}
    → SomeIff r P sum → q ≡ ok_or r e → q ≡ Ok most → most ≡ sum
added P None e h a b = cc
added P {most} (Some x) e h a b = let same : x ≡ most = cc in sym same ∙ h.1

-- two options that hold the same
pub same_some : {A : Type 0} {x y : A} → Some x ≡ Some y → x ≡ y
same_some e = cc

-- what holds nothing that it could hold holds nothing
pub none_there : {A : Type 0} (o : Option A) → ((x : A) → o ≡ Some x → ⊥) → o ≡ None
none_there None never = refl
none_there (Some x) never = absurd (never x refl)
