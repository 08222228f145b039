-- The JSON values that inputs and reports are made of, and the line that a value is written on.
-- Key laws: `input_json` and `report_json` (they write these lines, byte for byte).
use Rattle.std.specs.Prelude.{ℕ, List, ◌∷◌, [], ◌++◌, map}
use Rattle.serde_json.specs.Data.{Data, array, number, string, unsigned}
use Rattle.serde_json.specs.View.{items_of}
use Rattle.serde_json.specs.Written.{compact_text}

-- a number
abbrev pub whole : ℕ → Data
whole n = number (unsigned n)

-- the values of a list, in its order
abbrev pub list_by : {A : Type 0} → (A → Data) → List A → Data
list_by value xs = array (items_of (map value xs))

-- a list of numbers
abbrev pub wholes : List ℕ → Data
wholes ns = list_by whole ns

-- a word and the numbers after it
abbrev pub row : List ℕ → List ℕ → Data
row word ns = array (items_of (string word ∷ map whole ns))

-- the line of a value: its text without blanks, and a line feed
abbrev pub line_of_value : Data → List ℕ
line_of_value value = compact_text value ++ 10 ∷ []
