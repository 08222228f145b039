-- Something isn't nothing, and a list with an item isn't the empty one.
use Rattle.std.proofs.Common.{◌≡◌, List, [], ◌∷◌, Option, Some, None}

pub none-no : {A : Type 0} (x : A) → ◌≡◌ {A = Option A} None (Some x) → ⊥
none-no x e = cc

pub some-no : {A : Type 0} (x : A) → ◌≡◌ {A = Option A} (Some x) None → ⊥
some-no x e = cc

pub cons-no : {A : Type 0} (x : A) (xs : List A) → ◌≡◌ {A = List A} (x ∷ xs) [] → ⊥
cons-no x xs e = cc
