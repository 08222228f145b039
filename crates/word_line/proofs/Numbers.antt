-- What `parse` gives on a number.
use Rattle.std.proofs.Common.{◌≡◌, ℕ, ◌≤◌, Bool, true, false, cond, ◌&&◌, leb, List, length, Some, None, Result, Ok, ◌∙◌, ap, refl, arith, rules}
use Rattle.std.proofs.lemmas.Bool.Decides.{nat_tests}
use Rattle.std.specs.Char.{is_ascii_digit}
use Rattle.std.specs.List.{list_all}
use Rattle.std.specs.Result.{result_ok}
use Rattle.std.specs.Str.Parse.{digits_value, ParsesUnsigned}
use Rattle.std.proofs.lemmas.Str.Parse.{IsNumeralModel, numerals_by_value, parse_gives, digits_value_short}
use Rattle.word_line.specs.Forms.{number_of}

own : IsNumeralModel (λ ds. list_all is_ascii_digit ds ≡ true) (digits_value 10)
own = numerals_by_value _ (search rules)

parsed : {E : Type 0} (word : List ℕ) (r : Result ℕ E) → ParsesUnsigned 64 10 word r
    → list_all is_ascii_digit word ≡ true → 1 ≤ length word → length word ≤ 18 → r ≡ Ok (digits_value 10 word)
parsed word r h digits some few = parse_gives own 64 word r h digits (omega arith) (omega (
  arith,
  digits_value_short
      own word 18 digits few,
))

number-go : (some few digits : Bool) (value : ℕ) → some ≡ true → few ≡ true → digits ≡ true
    → Some value ≡ cond ((some && few) && digits) (Some value) None
number-go true true true value a b c = refl
number-go true true false value a b c = cc
number-go true false digits value a b c = cc
number-go false few digits value a b c = cc

-- the number of a word that has the form of one
pub number_read : {E : Type 0} (word : List ℕ) (r : Result ℕ E) → ParsesUnsigned 64 10 word r
    → list_all is_ascii_digit word ≡ true → 1 ≤ length word → length word ≤ 18 → result_ok r ≡ number_of word
number_read word r h digits some few =
    let left : leb 1 (length word) ≡ true = grind (arith, nat_tests) in
    let right : leb (length word) 18 ≡ true = grind (arith, nat_tests) in
    ap result_ok (parsed word r h digits some few) ∙ number-go _ _ _ (digits_value 10 word) left right digits
