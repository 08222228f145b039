-- The words of marks. A presence cell holds a mark of its subscriber: kind 0 says nothing of it,
-- kind 1 that it is here, kind 2 that it is gone to a node, kind 3 that it is coming from a node,
-- kind 4 that it is here and switched off. A part that a kind doesn't use is 0.
-- Key laws: `mark_words` (a mark comes back from its word, and a word from its mark).
use Rattle.std.specs.Prelude.{◌≡◌, ℕ, ◌/◌, ◌%◌, ◌^◌, ◌<◌, ◌==◌, ◌&&◌, Bool, true, false, cond, zero, suc, Option, Some, None, unwrap_or}
use Rattle.entry_word.specs.Parts.{word_of_parts}
use Rattle.entry_word.specs.declared.mark.PresenceMark.{PresenceMark}
use Rattle.entry_word.specs.declared.mark.PresenceMark.TheVariants.{Empty, Here, Gone, Coming, Off}

-- the word of a mark
abbrev pub mark_word : PresenceMark → ℕ
mark_word Empty = 0
mark_word (Here number) = word_of_parts 1 number 0
mark_word (Gone number to) = word_of_parts 2 number to
mark_word (Coming number from) = word_of_parts 3 number from
mark_word (Off number) = word_of_parts 4 number 0

-- the mark of these parts, if there is one
abbrev pub mark_from : ℕ → ℕ → ℕ → Option PresenceMark
mark_from zero number node = cond (number == 0 && node == 0) (Some Empty) None
mark_from (suc zero) number node = cond (node == 0) (Some (Here number)) None
mark_from (suc (suc zero)) number node = Some (Gone number node)
mark_from (suc (suc (suc zero))) number node = Some (Coming number node)
mark_from (suc (suc (suc (suc zero)))) number node = cond (node == 0) (Some (Off number)) None
mark_from (suc (suc (suc (suc (suc more))))) number node = None

-- the mark of a word, if there is one
abbrev pub mark_of : ℕ → Option PresenceMark
mark_of word = mark_from (word / 2 ^ 48) (word / 2 ^ 16 % 2 ^ 32) (word % 2 ^ 16)

-- the mark that a word is read as: a word of no mark is read as Empty
abbrev pub mark_in : ℕ → PresenceMark
mark_in word = unwrap_or (mark_of word) Empty

-- whether a mark says that its subscriber is here
abbrev pub says_here : PresenceMark → Bool
says_here Empty = false
says_here (Here number) = true
says_here (Gone number to) = false
says_here (Coming number from) = false
says_here (Off number) = false

-- whether a mark says that its subscriber is switched off
abbrev pub says_off : PresenceMark → Bool
says_off Empty = false
says_off (Here number) = false
says_off (Gone number to) = false
says_off (Coming number from) = false
says_off (Off number) = true

-- the parts of a mark fit into its word
abbrev pub IsSmallMark : PresenceMark → Type 0
IsSmallMark Empty = Unit {0}
IsSmallMark (Here number) = number < 2 ^ 32
IsSmallMark (Gone number to) = (number < 2 ^ 32) × (to < 2 ^ 16)
IsSmallMark (Coming number from) = (number < 2 ^ 32) × (from < 2 ^ 16)
IsSmallMark (Off number) = number < 2 ^ 32

-- a mark whose parts fit comes back from its word
abbrev pub MarksUnpack : Type 0
MarksUnpack = (mark : PresenceMark) → IsSmallMark mark → mark_of (mark_word mark) ≡ Some mark
