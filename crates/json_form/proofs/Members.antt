-- The first member of an object, and objects with a member too many.
use Rattle.std.proofs.Common.{◌≡◌, ℕ, ◌<◌, Bool, true, false, List, [], ◌∷◌, Option, Some, None, String, Global, if◌then◌else◌, is_some, length, slice_get, string_bytes, bytes_eq, arith, refl, sym, ap, ◌∙◌}
use Rattle.serde_json.specs.View.{members_view, view}
use Rattle.serde_json.specs.declared.value.Value.{Value}
use Rattle.json_form.specs.Taking.{InputValues, if_all, next_member}

some-is : {A : Type 0} (b : Bool) (x : A) → is_some (if b then Some x else None) ≡ b
some-is true x = refl
some-is false x = refl

-- whether the first member has a key
pub next-is : (key : List ℕ) (es : List (String Global × Value)) (name : String Global) (value : Value)
    → slice_get es 0 ≡ Some (name, value)
    → bytes_eq (string_bytes name) key ≡ is_some (next_member key (members_view es))
next-is key [] name value first = cc
next-is key (e ∷ es) name value first =
    let same : e.0 ≡ name = ap (λ (o : Option (String Global × Value)). pick-name e.0 o) first in
    ap (λ (n : String Global). bytes_eq (string_bytes n) key) (sym same)
    ∙ sym (some-is (bytes_eq (string_bytes e.0) key) (view e.1, members_view es))
  where
    pick-name : String Global → Option (String Global × Value) → String Global
    pick-name none None = none
    pick-name none (Some p) = p.0

-- a member too many
pub all-left : (es : List (String Global × Value)) (values : InputValues) → 0 < length es
    → if_all (members_view es) values ≡ None
all-left [] values some = absurd (omega arith)
all-left (e ∷ es) values some = refl
