-- What each line keeps holds of all that is read.
use Rattle.std.proofs.Common.{◌≡◌, ℕ, ◌+◌, ◌≤◌, true, List, [], ◌∷◌, Option, Some, None, Result, Ok, Err, refl, sym, ◌∙◌, arith}
use Rattle.std.proofs.lemmas.Bool.Decides.{nat_tests}
use Rattle.net_reader.specs.declared.fault.InputCause.{InputCause}
use Rattle.net_reader.specs.declared.word.Word.{Word}
use Rattle.net_reader.specs.Said.{Said, nothing}
use Rattle.net_reader.specs.TextLines.{word_of, numbers_of, lines_of, fields_of}
use Rattle.net_reader.specs.Table.{judge, may_stand}
use Rattle.net_reader.specs.RowLaws.{judge-rows}
use Rattle.net_reader.specs.Rows.{judge_by_rows, judge_word, verdict, row_of, place_of_word}
use Rattle.net_reader.specs.Input.{after_line, read_from, read}

-- each line that is taken keeps P
abbrev pub IsKeptByLines : (Said → Type 0) → Type 0
IsKeptByLines P = (said found : Said) (word : Word) (ns : List ℕ) → P said
    → may_stand said.place (place_of_word word) ≡ true → verdict (row_of said word ns) ≡ Ok found → P found

module _ (P : Said → Type 0) (kept : IsKeptByLines P) where
  keeps-spoken : {said : Said} (found : Said) (word : Option Word) (numbers : Option (List ℕ)) → P said
      → judge_word said word numbers ≡ Ok found → P found
  keeps-spoken {said} found (Some word) (Some ns) h e = grind (arith, kept said found word ns h)
  keeps-spoken found (Some word) None h e = cc
  keeps-spoken found None numbers h e = cc

  keeps-judged : {said : Said} (found : Said) (fields : List (List ℕ)) → P said
      → judge_by_rows said fields ≡ Ok found → P found
  keeps-judged {said} found [] h e = grind arith
  keeps-judged {said} found (field ∷ fields) h e =
      grind (arith, keeps-spoken found (word_of field) (numbers_of fields) h)

  abbrev Reads : List (List ℕ) → Type 0
  Reads lines = (said : Said) (n : ℕ) (found : Said × ℕ) → P said → read_from said n lines ≡ Ok found
      → P found.0 × (6 ≤ found.0.place)

  keeps-after : (result : Result Said InputCause) (n : ℕ) {found : Said × ℕ} (lines : List (List ℕ))
      → ((next : Said) → result ≡ Ok next → P next) → Reads lines
      → after_line result (n + 1) (λ next. read_from next (n + 1) lines) ≡ Ok found → P found.0 × (6 ≤ found.0.place)
  keeps-after (Err cause) n lines h all e = cc
  keeps-after (Ok next) n {found} lines h all e = all next (n + 1) found (h next refl) e

  keeps-lines : (lines : List (List ℕ)) → Reads lines
  keeps-lines [] = λ said n found h e. grind (arith, nat_tests)
  keeps-lines (line ∷ lines) = λ said n found h e.
      keeps-after (judge said (fields_of line)) n lines
      (λ next is. keeps-judged next (fields_of line) h (sym (judge-rows said (fields_of line)) ∙ is))
      (keeps-lines lines) e

-- what holds of nothing and is kept by each line holds of what is read, and a callers line was read
pub holds_of_read : (P : Said → Type 0) → P nothing → IsKeptByLines P → (bytes : List ℕ) {found : Said × ℕ}
    → read bytes ≡ Ok found → P found.0 × (6 ≤ found.0.place)
holds_of_read P begins kept bytes {found} e = keeps-lines P kept (lines_of bytes) nothing 0 found begins e
