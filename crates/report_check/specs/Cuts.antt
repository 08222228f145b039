-- Where a text is cut that has an input and a report: at its first line whose only field is
-- `report`. What stands before that line is the input part, and what stands behind it the report;
-- where there is no such line, all is the input part, and the report is empty.
-- Key laws: `cut_text` parts a text so; `example_cuts` computes some.
use Rattle.std.specs.Prelude.{ℕ, ◌==◌, Bool, false, if◌then◌else◌, List, [], ◌∷◌, ◌++◌, codes}
use Rattle.std.specs.Str.{bytes_eq}
use Rattle.net_reader.specs.TextLines.{fields_of, is_blank}

-- whether `report` is the only one of these fields
abbrev pub is_report_alone : List (List ℕ) → Bool
is_report_alone [] = false
is_report_alone (field ∷ []) = bytes_eq field (codes "report")
is_report_alone (field ∷ other ∷ fields) = false

-- whether a line, without its line feed, cuts the text; blanks and one carriage return are as in
-- the lines of an input
abbrev pub is_cut : List ℕ → Bool
is_cut line = is_report_alone (fields_of line)

-- the input part of a text from here on; `line` stands before it, on its first line
unfoldable pub input_from : List ℕ → List ℕ → List ℕ
input_from line [] = if is_cut line then [] else line
input_from line (b ∷ text) =
    if b == 10 then (if is_cut line then [] else line ++ 10 ∷ input_from [] text)
    else input_from (line ++ b ∷ []) text

-- and the report
unfoldable pub report_from : List ℕ → List ℕ → List ℕ
report_from line [] = []
report_from line (b ∷ text) =
    if b == 10 then (if is_cut line then text else report_from [] text)
    else report_from (line ++ b ∷ []) text

-- the input part of a text
abbrev pub input_part : List ℕ → List ℕ
input_part text = input_from [] text

-- the report that a text has
abbrev pub report_part : List ℕ → List ℕ
report_part text = report_from [] text

-- what stands behind the blanks at the front; the code finds the only field by it
unfoldable pub behind_blanks : List ℕ → List ℕ
behind_blanks [] = []
behind_blanks (b ∷ text) = if is_blank b then behind_blanks text else b ∷ text
