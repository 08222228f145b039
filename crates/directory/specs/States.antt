-- What writes leave in the cells of their subscriber, told by marks and addresses and not by words.
-- Key laws: `cells_of_legal` (a cell after a legal history holds the word of what the writes left),
-- `told_by_writes` (and the writes tell its commits, and whether its subscriber is off).
use Rattle.std.specs.Prelude.{ℕ, Bool, false, [], ◌∷◌, ◌==◌, ◌&&◌, if◌then◌else◌, List, Option, Some, None, fold, length, take}
use Rattle.entry_word.specs.Marks.{IsSmallMark, says_off}
use Rattle.entry_word.specs.Addresses.{IsSmallAddress}
use Rattle.entry_word.specs.declared.mark.PresenceMark.{PresenceMark}
use Rattle.entry_word.specs.declared.mark.PresenceMark.TheVariants.{Empty, Here}
use Rattle.entry_word.specs.declared.address.Address.{Address}
use Rattle.entry_word.specs.declared.visit.Visit.{Visit}
use Rattle.directory.specs.Settings.{Setting, start}
use Rattle.directory.specs.Keys.{is_start, is_start_home}
use Rattle.directory.specs.Courses.{course_at}
use Rattle.directory.specs.Writes.{Write, mark_at, entry_at, writes}
use Rattle.directory.specs.Puts.{steps_in}
use Rattle.directory.specs.Standing.{Commit, commit_of}

-- the mark of a subscriber at a node, at the opening
abbrev pub opening_mark : Setting → ℕ → ℕ → PresenceMark
opening_mark setting sub node = if is_start setting node sub then Here 0 else Empty

-- the address of a subscriber at a cluster of a level, at the opening
abbrev pub opening_entry : Setting → ℕ → ℕ → ℕ → Option Address
opening_entry setting sub level cluster =
    if is_start_home setting level cluster sub
    then Some (record { number = 0; node = start setting sub }) else None

-- the mark at a node, after a write
abbrev pub mark_after : ℕ → PresenceMark → Write → PresenceMark
mark_after node mark (mark_at other new) = if node == other then new else mark
mark_after node mark (entry_at level cluster address) = mark

-- the address at a cluster of a level, after a write
abbrev pub entry_after : ℕ → ℕ → Option Address → Write → Option Address
entry_after level cluster address (mark_at node mark) = address
entry_after level cluster address (entry_at other c new) =
    if level == other && cluster == c then new else address

-- the mark at a node, after some writes
abbrev pub mark_left : Setting → ℕ → List Write → ℕ → PresenceMark
mark_left setting sub made node = fold (mark_after node) (opening_mark setting sub node) made

-- the address at a cluster of a level, after some writes
abbrev pub entry_left : Setting → ℕ → List Write → ℕ → ℕ → Option Address
entry_left setting sub made level cluster =
    fold (entry_after level cluster) (opening_entry setting sub level cluster) made

-- the writes that legal puts make
abbrev pub writes_made : Setting → ℕ → List Visit → List Write
writes_made setting sub puts =
    take (length puts) (writes setting (course_at (start setting sub)) (steps_in puts))

-- what is written fits into its word
abbrev pub IsSmallWrite : Write → Type 0
IsSmallWrite (mark_at node mark) = IsSmallMark mark
IsSmallWrite (entry_at level cluster address) = IsSmallAddress address

-- all of some writes fit
unfoldable pub AreSmall : List Write → Type 0
AreSmall [] = Unit {0}
AreSmall (write ∷ later) = IsSmallWrite write × AreSmall later

-- the commit that a write is, if it is one
abbrev pub write_commit : Write → Option Commit
write_commit (mark_at node mark) = commit_of node mark
write_commit (entry_at level cluster address) = None

-- whether a write says that the subscriber is off
abbrev pub write_off : Write → Bool
write_off (mark_at node mark) = says_off mark
write_off (entry_at level cluster address) = false
