-- A cell's word as fields, and back: a kind, a number and a node. Of a presence the kind is 0
-- (nothing), 1 (here), 2 (gone to the node), 3 (coming from the node) or 4 (here, and off); of an
-- entry it is 0 (nothing) or 1 (an address). A part that a kind doesn't use is 0.
-- Key laws: `track_mark_read`, `track_mark_pack`, `track_entry_read` and `track_entry_pack`, by
-- their clauses.
use Rattle.std.specs.Prelude.{ℕ, ◌^◌, nat_lt, if◌then◌else◌, Option, Some, None, Ok, Err, option_map}
use Rattle.entry_word.specs.Addresses.{address_from, address_of, address_word}
use Rattle.entry_word.specs.Marks.{mark_from, mark_of, mark_word}
use Rattle.entry_word.specs.declared.address.Address.{Address}
use Rattle.entry_word.specs.declared.mark.PresenceMark.{PresenceMark}
use Rattle.entry_word.specs.declared.mark.PresenceMark.TheVariants.{Empty, Here, Gone, Coming, Off}
use Rattle.track_c.specs.Faults.{Answer}
use Rattle.track_c.specs.declared.fault.Fault.{Fault}
use Rattle.track_c.specs.declared.fault.Fault.TheVariants.{BadFields, BadWord}
use Rattle.track_c.specs.declared.words.TrackFields.{TrackFields}

-- these fields
abbrev pub fields : ℕ → ℕ → ℕ → TrackFields
fields kind number node = record { kind = kind; number = number; node = node }

-- the fields of a mark
abbrev pub mark_fields : PresenceMark → TrackFields
mark_fields Empty = fields 0 0 0
mark_fields (Here number) = fields 1 number 0
mark_fields (Gone number to) = fields 2 number to
mark_fields (Coming number from) = fields 3 number from
mark_fields (Off number) = fields 4 number 0

-- the fields of an entry
abbrev pub entry_fields : Option Address → TrackFields
entry_fields None = fields 0 0 0
entry_fields (Some address) = fields 1 address.number address.node

-- what there is, or the fault that there is nothing
abbrev pub there_or : {T : Type 0} → Fault → Option T → Answer T
there_or fault None = Err fault
there_or fault (Some value) = Ok value

-- the fields of a word of a presence, and of an entry
abbrev pub mark_read : ℕ → Answer TrackFields
mark_read word = there_or BadWord (option_map mark_fields (mark_of word))

abbrev pub entry_read : ℕ → Answer TrackFields
entry_read word = there_or BadWord (option_map entry_fields (address_of word))

-- the mark, and the entry, that has these fields
abbrev pub mark_with : TrackFields → Option PresenceMark
mark_with it = if nat_lt it.node (2 ^ 16) then mark_from it.kind it.number it.node else None

abbrev pub entry_with : TrackFields → Option (Option Address)
entry_with it = if nat_lt it.node (2 ^ 16) then address_from it.kind it.number it.node else None

-- the word of a presence, and of an entry, that has these fields
abbrev pub mark_packed : TrackFields → Answer ℕ
mark_packed it = there_or BadFields (option_map mark_word (mark_with it))

abbrev pub entry_packed : TrackFields → Answer ℕ
entry_packed it = there_or BadFields (option_map address_word (entry_with it))
