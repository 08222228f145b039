-- A written line reads as its word and its numbers.
use Rattle.std.proofs.Common.{◌≡◌, ℕ, ◌<◌, ◌≤◌, Bool, true, false, cond, eqb, leb, ◌&&◌, List, [], ◌∷◌, ◌++◌, map, length, All, Option, Some, None, Err, refl, sym, ap, ◌∙◌, append-nil, append_assoc, arith}
use Rattle.std.proofs.lemmas.Bool.Decides.{nat_tests}
use Rattle.std.proofs.lemmas.Fmt.{decimal_is_IsNumeral, length-decimal-le}
use Rattle.std.proofs.lemmas.List.Elements.{All-head, All-tail}
use Rattle.std.proofs.lemmas.List.Folds.{list_all-append}
use Rattle.std.proofs.lemmas.Str.Parse.{digit_at}
use Rattle.std.specs.Char.{is_ascii_digit}
use Rattle.std.specs.Fmt.{decimal}
use Rattle.std.specs.List.{list_all}
use Rattle.std.specs.Int.{IsInRange}
use Rattle.std.specs.Str.Parse.{AllDigits}
use Rattle.word_line.specs.Forms.{number_of}
use Rattle.net_reader.specs.declared.fault.InputCause.TheVariants.{Form}
use Rattle.net_reader.specs.TextLines.{begins_comment, fields_from, fields_of, is_blank, lines_from, lines_of, numbers_of, piece, without_return, word_of}
use Rattle.net_reader.specs.Said.{Said}
use Rattle.net_reader.specs.Table.{may_stand}
use Rattle.net_reader.specs.Rows.{Row, judge_word, verdict}
use Rattle.outside.specs.Texts.{fields}
use Rattle.input_text.specs.Listing.{line_of}
use Rattle.std.proofs.lemmas.Bool.{and_from, and_parts}

-- bytes that stand inside a line, and bytes that stand inside a field
abbrev pub is_inside : ℕ → Bool
is_inside b = leb 32 b

abbrev pub is_dense : ℕ → Bool
is_dense b = leb 33 b

-- a field's bytes stand inside a line too
inside-dense : (bytes : List ℕ) → list_all is_dense bytes ≡ true → list_all is_inside bytes ≡ true
inside-dense [] e = refl
inside-dense (b ∷ bytes) e =
    let both = and_parts (is_dense b) (list_all is_dense bytes) e in
    let here : leb 33 b ≡ true = both.0 in
    let inside : leb 32 b ≡ true = grind (arith, nat_tests) in
    and_from (is_inside b) (list_all is_inside bytes) inside (inside-dense bytes both.1)

-- a line ends at its line feed
lines-cut : (so_far line rest : List ℕ) → list_all is_inside line ≡ true
    → lines_from so_far (line ++ 10 ∷ rest) ≡ (so_far ++ line) ∷ lines_of rest
lines-cut so_far [] rest e = ap (λ l. l ∷ lines_of rest) (sym (append-nil so_far))
lines-cut so_far (b ∷ line) rest e =
    let both = and_parts (is_inside b) (list_all is_inside line) e in
    let here : leb 32 b ≡ true = both.0 in
    let other : eqb b 10 ≡ false = grind (arith, nat_tests) in
    rw other (lines-cut (so_far ++ b ∷ []) line rest both.1
    ∙ ap (λ l. l ∷ lines_of rest) (append_assoc so_far (b ∷ []) line))

-- no carriage return is dropped
no-return : (line : List ℕ) → list_all is_inside line ≡ true → without_return line ≡ line
no-return [] e = refl
no-return (b ∷ []) e =
    grind (arith, and_parts)
no-return (b ∷ c ∷ line) e =
    let both = and_parts (is_inside b) (list_all is_inside (c ∷ line)) e in
    ap (λ l. b ∷ l) (no-return (c ∷ line) both.1)

-- a field ends at a blank, or at the end
dense-blank : (b : ℕ) → is_dense b ≡ true → is_blank b ≡ false
dense-blank b e = grind (arith, nat_tests)

fields-cut : (so_far bytes rest : List ℕ) → list_all is_dense bytes ≡ true
    → fields_from so_far (bytes ++ 32 ∷ rest) ≡ piece (so_far ++ bytes) ++ fields_from [] rest
fields-cut so_far [] rest e = ap (λ l. piece l ++ fields_from [] rest) (sym (append-nil so_far))
fields-cut so_far (b ∷ bytes) rest e =
    let both = and_parts (is_dense b) (list_all is_dense bytes) e in
    rw (dense-blank b both.0) (fields-cut (so_far ++ b ∷ []) bytes rest both.1
    ∙ ap (λ l. piece l ++ fields_from [] rest) (append_assoc so_far (b ∷ []) bytes))

fields-end : (so_far bytes : List ℕ) → list_all is_dense bytes ≡ true
    → fields_from so_far bytes ≡ piece (so_far ++ bytes)
fields-end so_far [] e = ap piece (sym (append-nil so_far))
fields-end so_far (b ∷ bytes) e =
    let both = and_parts (is_dense b) (list_all is_dense bytes) e in
    rw (dense-blank b both.0) (fields-end (so_far ++ b ∷ []) bytes both.1
    ∙ ap piece (append_assoc so_far (b ∷ []) bytes))

piece-some : (bytes : List ℕ) → 0 < length bytes → piece bytes ≡ bytes ∷ []
piece-some [] h = absurd (omega arith)
piece-some (b ∷ bytes) h = refl

-- numbers of at most seven digits
abbrev pub IsSmall : ℕ → Type 0
IsSmall n = n < 10000000

digits-all : (ds : List ℕ) → AllDigits 10 ds → list_all (λ b. is_ascii_digit b) ds ≡ true
digits-all [] h = refl
digits-all (d ∷ ds) h =
    grind (arith, nat_tests, digit_at (d ∷ ds) 0 h (omega arith), digits-all ds h.1, h.1)

digits-dense : (ds : List ℕ) → AllDigits 10 ds → list_all is_dense ds ≡ true
digits-dense [] h = refl
digits-dense (d ∷ ds) h =
    let digit : IsInRange 48 57 d = digit_at (d ∷ ds) 0 h (omega arith) in
    and_from (is_dense d) (list_all is_dense ds) (grind (arith, nat_tests)) (digits-dense ds h.1)

-- a number's digits: there are some, they stand in one field, and they read as the number
pub record IsWritten (n : ℕ) : Type 0 where
  pub some : 0 < length (decimal n)
  pub dense : list_all is_dense (decimal n) ≡ true
  pub reads : number_of (decimal n) ≡ Some n

number-go : (a b c : Bool) {v n : ℕ} → a ≡ true → b ≡ true → c ≡ true → v ≡ n
    → cond (a && b && c) (Some v) None ≡ Some n
number-go true true true e f g h = ap Some h
number-go true true false e f g h = cc
number-go true false c e f g h = cc
number-go false b c e f g h = cc

pub written : {n : ℕ} → IsSmall n → IsWritten n
written {n} small =
    let numeral = decimal_is_IsNumeral n (omega arith) in
    let some : 0 < length (decimal n) = numeral.0.0 in
    let short : length (decimal n) ≤ 7 = length-decimal-le 7 n (omega arith) small (omega arith) in record {
      some = some;
      dense = digits-dense (decimal n) numeral.0.1;
      reads = grind (arith, number-go, digits-all);
    }

-- the fields of a word and numbers after it
word-fields : (word : List ℕ) (numbers : List ℕ) → list_all is_dense word ≡ true → All IsSmall numbers
    → fields_from [] (word ++ fields numbers) ≡ piece word ++ map decimal numbers
word-fields word [] dense small = grind (arith, append-nil, fields-end, dense)
word-fields word (n ∷ numbers) dense small =
    let here = written (All-head IsSmall n numbers small) in
    fields-cut [] word (decimal n ++ fields numbers) dense
    ∙ ap (λ l. piece word ++ l)
    (word-fields (decimal n) numbers here.dense (All-tail IsSmall n numbers small)
    ∙ ap (λ l. l ++ map decimal numbers) (piece-some (decimal n) here.some))

pub line-numbers : (numbers : List ℕ) → All IsSmall numbers → numbers_of (map decimal numbers) ≡ Some numbers
line-numbers [] small = refl
line-numbers (n ∷ numbers) small =
    let here = written (All-head IsSmall n numbers small) in
    rw (here.reads, line-numbers numbers (All-tail IsSmall n numbers small)) refl

fields-inside : (numbers : List ℕ) → All IsSmall numbers → list_all is_inside (fields numbers) ≡ true
fields-inside [] small = refl
fields-inside (n ∷ numbers) small =
    let here = written (All-head IsSmall n numbers small) in
    list_all-append is_inside (decimal n) (fields numbers)
    ∙ and_from (list_all is_inside (decimal n)) (list_all is_inside (fields numbers))
    (inside-dense (decimal n) here.dense) (fields-inside numbers (All-tail IsSmall n numbers small))

-- a word that begins the lines of a place of the grammar, which are judged by a row of the table
pub record IsWord (word : List ℕ) (place : ℕ) (row : Said → List ℕ → Option Row) : Type 0 where
  pub some : 0 < length word
  pub dense : list_all is_dense word ≡ true
  pub says : begins_comment word ≡ false
  pub judged : (said : Said) (numbers : List ℕ) → judge_word said (word_of word) (Some numbers)
      ≡ cond (may_stand said.place place) (verdict (row said numbers)) (Err Form)

-- what stands in a line, and what is read of it
pub line-cut : (word numbers rest : List ℕ) → 0 < length word → list_all is_dense word ≡ true → All IsSmall numbers
    → lines_of (line_of word numbers ++ rest) ≡ (word ++ fields numbers) ∷ lines_of rest
line-cut word numbers rest some dense small =
    ap lines_of (append_assoc word (fields numbers ++ 10 ∷ []) rest
    ∙ ap (λ l. word ++ l) (append_assoc (fields numbers) (10 ∷ []) rest)
    ∙ sym (append_assoc word (fields numbers) (10 ∷ rest)))
    ∙ lines-cut [] (word ++ fields numbers) rest (list_all-append is_inside word (fields numbers)
    ∙ and_from (list_all is_inside word) (list_all is_inside (fields numbers)) (inside-dense word dense)
    (fields-inside numbers small))

pub line-fields : (word numbers : List ℕ) → 0 < length word → list_all is_dense word ≡ true → All IsSmall numbers
    → fields_of (word ++ fields numbers) ≡ word ∷ map decimal numbers
line-fields word numbers some dense small =
    ap (fields_from []) (no-return (word ++ fields numbers) (list_all-append is_inside word (fields numbers)
    ∙ and_from (list_all is_inside word) (list_all is_inside (fields numbers)) (inside-dense word dense)
    (fields-inside numbers small)))
    ∙ word-fields word numbers dense small
    ∙ ap (λ l. l ++ map decimal numbers) (piece-some word some)
