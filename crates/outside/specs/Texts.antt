-- The pieces of texts: one after another, and numbers behind a blank.
-- Key laws: those of the texts that are made of them, `plan_text` and `report` of report_text and
-- `census_text`.
use Rattle.std.specs.Prelude.{ℕ, List, ◌∷◌, ◌++◌, flat_map}
use Rattle.std.specs.Fmt.{decimal}

infixr 65 ◌then◌
-- one text after another
abbrev pub ◌then◌ : List ℕ → List ℕ → List ℕ
xs then ys = xs ++ ys

-- a blank and a number
abbrev pub field : ℕ → List ℕ
field n = 32 ∷ decimal n

-- numbers, each behind a blank
abbrev pub fields : List ℕ → List ℕ
fields ns = flat_map field ns
