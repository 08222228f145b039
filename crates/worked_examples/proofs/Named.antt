-- A name that is taken by one of several names is one of them.
use Rattle.std.proofs.Common.{◌≡◌, ℕ, Bool, true, false, List, [], ◌∷◌, Contains, Option, is_some, if◌then◌else◌, bytes_eq, suc, sym, arith}
use Rattle.std.proofs.lemmas.Slice.Eq.{bytes_eq-Decides}

-- it is the first one, or one behind it
pub first_or : {W : Type 0} (name first : List ℕ) (names : List (List ℕ)) (here : Bool)
    (one rest : Option W) → bytes_eq name first ≡ here
    → (is_some rest ≡ true → Contains names name)
    → is_some (if here then one else rest) ≡ true → Contains (first ∷ names) name
first_or name first names true one rest is behind e =
    (0, omega arith, sym ((bytes_eq-Decides name first).0 is))
first_or name first names false one rest is behind e =
    let found = behind e in (suc found.0, omega (arith, found.1), found.2)

-- none is left
pub none_left : (name : List ℕ) → false ≡ true → Contains [] name
none_left name e = cc
