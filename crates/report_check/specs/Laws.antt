-- What the steps of `Reading` read, as named statements. Key laws: `words_are_text`
-- (`WordsAreText`), `numbers_are_text` (`NumbersAreText`), `calls_are_text` (`CallsAreText`).
use Rattle.std.specs.Prelude.{◌≡◌, ℕ, ◌<◌, ◌≤◌, ◌^◌, ◌↔◌, false, List, ◌++◌, Some}
use Rattle.outside.specs.Texts.{field}
use Rattle.directory.specs.declared.answers.Done.{Done}
use Rattle.report_text.specs.ReportText.{call_line}
use Rattle.report_check.specs.declared.calls.Bounds.{Bounds}
use Rattle.report_check.specs.declared.slots.Slot.{Slot}
use Rattle.report_check.specs.Forms.{IsCallBelow, slot_told}
use Rattle.report_check.specs.Reading.{call_in, number_in, starts_with_digit, word_in}

-- a word is read just where the text begins with it
abbrev pub WordsAreText : Type 0
WordsAreText =
    (word text rest : List ℕ) → (word_in word text ≡ Some rest) ↔ (text ≡ word ++ rest)

-- a number is read just where it is below the limit and the text begins with what is written of it,
-- a blank and its digits without leading zeros, and no digit follows
abbrev pub NumbersAreText : Type 0
NumbersAreText =
    (limit n : ℕ) (text rest : List ℕ) → limit ≤ 2 ^ 63
    → (number_in limit text ≡ Some (n, rest))
    ↔ ((n < limit) × (starts_with_digit rest ≡ false) × (text ≡ field n ++ rest))

-- a call is read just where it has the slot, its numbers are in bounds, and the text begins with
-- the line that is written of it
abbrev pub CallsAreText : Type 0
CallsAreText =
    (bounds : Bounds) (slot : Slot) (text rest : List ℕ) (call : Done) → bounds.nodes ≤ 2 ^ 63
    → bounds.levels ≤ 2 ^ 63
    → (call_in bounds slot text ≡ Some (call, rest))
    ↔ ((slot_told call ≡ slot) × IsCallBelow bounds call × (text ≡ call_line call ++ rest))
