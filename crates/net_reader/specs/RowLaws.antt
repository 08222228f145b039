-- The rows judge each line as the table does, for the proofs of this crate and of those above.
-- Key law: `judge-rows`.
use Rattle.std.proofs.Common.{◌≡◌, ℕ, Bool, true, false, List, [], ◌∷◌, Option, Some, None, Result, Ok, Err, refl, ap, arith}
use Rattle.std.specs.Prelude.{if◌then◌else◌}
use Rattle.net_reader.specs.declared.fault.InputCause.{InputCause}
use Rattle.net_reader.specs.declared.fault.InputCause.TheVariants as causes
use Rattle.net_reader.specs.declared.word.Word.{Word}
use Rattle.net_reader.specs.declared.word.Word.TheVariants as words
use Rattle.net_reader.specs.TextLines.{word_of, numbers_of, is_skipped}
use Rattle.net_reader.specs.Said.{Said}
use Rattle.net_reader.specs.Table.{judge, judge_fields, judge_line, may_stand}
use Rattle.net_reader.specs.Rows.{judge_by_rows, judge_word, place_of_word, verdict}

-- a line without a row
no-row : (stands : Bool) {heard : Result Said InputCause} → heard ≡ Err causes.Form
    → heard ≡ (if stands then verdict None else Err causes.Form)
no-row true e = e
no-row false e = e

line-row : (said : Said) (word : Word) (numbers : List ℕ)
    → judge_line said word numbers ≡ judge_word said (Some word) (Some numbers)
line-row said words.Track (format ∷ []) = grind arith
line-row said words.Nodes (n ∷ []) = grind arith
line-row said words.K (k ∷ []) = grind arith
line-row said words.Edge (a ∷ b ∷ w ∷ []) = grind arith
line-row said words.Sub (node ∷ []) = refl
line-row said words.Callers (callers ∷ []) = refl
line-row said words.Move (sub ∷ to ∷ []) = refl
line-row said words.Find (caller ∷ from ∷ sub ∷ []) = refl
line-row said words.Off (sub ∷ []) = grind arith
line-row said words.On (sub ∷ []) = grind arith
line-row said words.Order numbers = grind arith
line-row said word numbers = no-row (may_stand said.place (place_of_word word)) refl

fields-rows : (said : Said) (word : Option Word) (numbers : Option (List ℕ))
    → judge_fields said word numbers ≡ judge_word said word numbers
fields-rows said (Some word) (Some numbers) = line-row said word numbers
fields-rows said (Some word) None = refl
fields-rows said None numbers = refl

-- the rows judge as the table does
pub judge-rows : (said : Said) (fields : List (List ℕ))
    → judge said fields ≡ judge_by_rows said fields
judge-rows said [] = refl
judge-rows said (field ∷ fields) =
    ap (λ (r : Result Said InputCause). if is_skipped (field ∷ fields) then Ok said else r)
    (fields-rows said (word_of field) (numbers_of fields))
