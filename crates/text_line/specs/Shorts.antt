-- Short numbers as the code keeps them: a blank and the digits in eight bytes, of which the last
-- one tells how many are text; and numbers of two digits. Callers see whole fields alone.
-- Key law: `short_fields` makes those of the numbers from 0 on (`AreShort`).
use Rattle.std.specs.Prelude.{◌≡◌, ℕ, ◌+◌, ◌/◌, ◌%◌, ◌<◌, ◌≤◌, List, [], ◌∷◌, length, slice_index, slice_index_or, take}
use Rattle.outside.specs.Texts.{field}

-- the two digits of a number below a hundred
abbrev pub pair : ℕ → List ℕ
pair number = (48 + number / 10) ∷ (48 + number % 10) ∷ []

-- the bytes begin with the number's field, and the last one tells its length
pub record IsShort (number : ℕ) (short : List ℕ) : Type 0 where
  pub count : length short ≡ 8
  pub few : slice_index short 7 ≤ 7
  pub text : take (slice_index short 7) short ≡ field number

-- the short fields of the numbers from 0 on
abbrev pub AreShort : List (List ℕ) → Type 0
AreShort shorts = (number : ℕ) → number < length shorts
    → IsShort number (slice_index_or shorts number [])
