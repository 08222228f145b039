-- Words in 32 bits: a word whose kind is below 2^6, whose number below 2^16 and whose node below
-- 2^10 is small, and these parts then lie side by side in 32 bits.
-- Key law: `Words::set`, by its clause (a row of words holds what was put, in 32 bits or not).
use Rattle.std.specs.Prelude.{ℕ, ◌≡◌, ◌/◌, ◌%◌, ◌^◌, ◌++◌, List, map}
use Rattle.entry_word.specs.Parts.{word_of_parts}

-- a word can be kept in 32 bits: the bits between its parts are 0
pub record IsSmall (word : ℕ) : Type 0 where
  pub node : word / 2 ^ 10 % 2 ^ 6 ≡ 0
  pub number : word / 2 ^ 32 % 2 ^ 16 ≡ 0
  pub kind : word / 2 ^ 54 ≡ 0

-- the word that 32 bits stand for: the upper 16 are its number, the lower 10 its node, and those
-- between them its kind
abbrev pub word_of_narrow : ℕ → ℕ
word_of_narrow narrow = word_of_parts (narrow / 2 ^ 10 % 2 ^ 6) (narrow / 2 ^ 16) (narrow % 2 ^ 10)

-- the words of a row: those that are kept in 32 bits, and then those that aren't
abbrev pub words_of : List ℕ → List ℕ → List ℕ
words_of narrow wide = map word_of_narrow narrow ++ wide
