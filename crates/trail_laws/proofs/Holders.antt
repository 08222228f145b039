-- Which addresses an entry has: the old one of its level, or that of the move under way.
use Rattle.trail_laws.proofs.ClosedEntries.{new-stop, old-stop, entry_erased, entry_written, rest_entry}
use Rattle.std.proofs.lemmas.Option.{cond_some}
use Rattle.std.proofs.lemmas.Bool.{cases_Bool, eqb-true}
use Rattle.std.proofs.Common.{◌≡◌, ℕ, ◌≤◌, true, false, ◌==◌, ◌&&◌, List, Some, arith}
use Rattle.std.specs.Prelude.{nat_le}
use Rattle.node_set.specs.Ascending.{has}
use Rattle.entry_word.specs.declared.address.Address.{Address}
use Rattle.directory.specs.Settings.{Setting}
use Rattle.directory.specs.Courses.{Move, Course, address_node, base}
use Rattle.directory.specs.Writes.{old_home}
use Rattle.trail_laws.proofs.ClosedViews.{old_levels, renewed_levels}
use Rattle.trail_laws.proofs.ClosedWrites.{whole-entries}
use Rattle.trail_laws.proofs.ClosedMarks.{base-with, IsNext}
use Rattle.trail_laws.proofs.Links.{IsSound}

-- the address that a level had before the move, and the one that the move writes
abbrev pub old_address : Course → ℕ → Address
old_address course level = record { number = base level course.moves; node = address_node course level }

abbrev pub move_address : Move → Address
move_address move = record { number = move.number; node = move.to }

-- an entry is an old address at its home, or the new one at its home
unfoldable pub IsOld : Setting → Course → ℕ → ℕ → Address → Type 0
IsOld setting course level cluster address = (address ≡ old_address course level)
    × ((cluster == old_home setting course level) ≡ true)

unfoldable pub IsNew : Setting → Move → ℕ → ℕ → Address → Type 0
IsNew setting move level cluster address = (address ≡ move_address move)
    × ((cluster == setting.home level move.to) ≡ true)

pub rest-some : (setting : Setting) (course : Course) (level cluster : ℕ) (address : Address)
    → rest_entry setting course level cluster ≡ Some address → IsOld setting course level cluster address
unfolding IsOld
rest-some setting course level cluster address h = grind (arith, old_address, cond_some)

pub erased-some : (setting : Setting) (course : Course) (move : Move) (written erased : List ℕ) (level cluster : ℕ)
    (address : Address) → entry_erased setting course move written erased level cluster ≡ Some address
    → ((has level erased && cluster == old_home setting course level) ≡ false)
    × (entry_written setting course move written level cluster ≡ Some address)
erased-some setting course move written erased level cluster address h = grind (arith, cases_Bool)

-- when all old addresses are erased at all levels, only the new one is left
pub only-new : {setting : Setting} {course : Course} {move : Move} (level cluster : ℕ) (address : Address)
    → IsSound setting course → IsNext setting course move → level ≤ setting.top
    → (move.renewed == setting.top) ≡ true
    → entry_erased setting course move (renewed_levels move) (old_levels setting course move) level cluster
    ≡ Some address → IsNew setting move level cluster address
unfolding IsOld IsNew
only-new {setting} {course} {move} level cluster address sound next low top h =
    grind (arith, nat_le, eqb-true, rest-some, whole-entries, base-with, new-stop, old-stop)
