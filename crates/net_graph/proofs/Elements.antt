-- The first element of a list, and those behind it.
use Rattle.std.proofs.Common.{◌≡◌, ◌⊎◌, zero, suc, List, ◌∷◌, refl, inl, inr, arith}
use Rattle.std.specs.Prelude.{Contains}

pub first : {X : Type 0} (x : X) (xs : List X) → Contains (x ∷ xs) x
first x xs = (zero, omega arith, refl)

pub later : {X : Type 0} (x y : X) (xs : List X) → Contains xs x → Contains (y ∷ xs) x
later x y xs (k, below, here) = (suc k, omega arith, here)

pub first_or_later : {X : Type 0} (x y : X) (xs : List X) → Contains (y ∷ xs) x → (y ≡ x) ⊎ Contains xs x
first_or_later x y xs (zero, below, here) = inl here
first_or_later x y xs (suc k, below, here) = inr (k, omega arith, here)
