-- Bytes that may be known or not. A source in memory tells the bytes that it has left, and one over
-- a pipe can't: what isn't known stays so, and clauses about it say nothing. Key laws:
-- prepend_known-append, append_known-append, prepend_known-nil.
use Rattle.std.specs.Prelude.{◌≡◌, List, [], ◌++◌, ℕ, Option, Some, None, refl}
use Rattle.std.proofs.Common.{sym, ap, append_assoc}

-- the known bytes with others before them
abbrev pub prepend_known : List ℕ → Option (List ℕ) → Option (List ℕ)
prepend_known front None = None
prepend_known front (Some rest) = Some (front ++ rest)

-- the known bytes with others after them
abbrev pub append_known : Option (List ℕ) → List ℕ → Option (List ℕ)
append_known None back = None
append_known (Some bytes) back = Some (bytes ++ back)

-- nothing is left, as far as is known
abbrev pub IsAtEnd : Option (List ℕ) → Type 0
IsAtEnd None = Unit {0}
IsAtEnd (Some bytes) = bytes ≡ []

-- two pieces in front, one behind the other, are their join in front
pub prepend_known-append : (a b : List ℕ) (rest : Option (List ℕ))
    → prepend_known (a ++ b) rest ≡ prepend_known a (prepend_known b rest)
prepend_known-append a b None = refl
prepend_known-append a b (Some rest) = ap (λ (bytes : List ℕ). Some bytes) (append_assoc a b rest)

-- two pieces behind, one after the other, are their join behind
pub append_known-append : (bytes : Option (List ℕ)) (a b : List ℕ)
    → append_known bytes (a ++ b) ≡ append_known (append_known bytes a) b
append_known-append None a b = refl
append_known-append (Some bytes) a b =
    ap (λ (bytes : List ℕ). Some bytes) (sym (append_assoc bytes a b))

-- nothing in front changes nothing
pub prepend_known-nil : (rest : Option (List ℕ)) → prepend_known [] rest ≡ rest
prepend_known-nil None = refl
prepend_known-nil (Some rest) = refl
