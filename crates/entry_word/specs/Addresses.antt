-- The words of entries. An entry cell holds nothing, as kind 0, or an address, as kind 1: where
-- its subscriber went with one of its moves.
-- Key laws: `address_words` (an entry comes back from its word, and a word from its entry).
use Rattle.std.specs.Prelude.{◌≡◌, ℕ, zero, suc, ◌/◌, ◌%◌, ◌^◌, ◌<◌, ◌==◌, ◌&&◌, cond, Option, Some, None, unwrap_or}
use Rattle.entry_word.specs.Parts.{word_of_parts}
use Rattle.entry_word.specs.declared.address.Address.{Address}

-- the word of an entry
abbrev pub address_word : Option Address → ℕ
address_word None = 0
address_word (Some address) = word_of_parts 1 address.number address.node

-- the entry of these parts, if there is one
abbrev pub address_from : ℕ → ℕ → ℕ → Option (Option Address)
address_from zero number node = cond (number == 0 && node == 0) (Some None) None
address_from (suc zero) number node = Some (Some (record { number = number; node = node }))
address_from (suc (suc more)) number node = None

-- the entry of a word, if there is one
abbrev pub address_of : ℕ → Option (Option Address)
address_of word = address_from (word / 2 ^ 48) (word / 2 ^ 16 % 2 ^ 32) (word % 2 ^ 16)

-- the entry that a word is read as: a word of no entry is read as nothing
abbrev pub address_in : ℕ → Option Address
address_in word = unwrap_or (address_of word) None

-- the parts of an entry fit into its word
abbrev pub IsSmallAddress : Option Address → Type 0
IsSmallAddress None = Unit {0}
IsSmallAddress (Some address) = (address.number < 2 ^ 32) × (address.node < 2 ^ 16)

-- an entry whose parts fit comes back from its word
abbrev pub EntriesUnpack : Type 0
EntriesUnpack =
    (address : Option Address) → IsSmallAddress address
    → address_of (address_word address) ≡ Some address
