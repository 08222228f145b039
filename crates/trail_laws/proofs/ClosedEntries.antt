-- The entries of a subscriber in closed form: at rest after a course, and in each phase of the move that comes next.
use Rattle.std.proofs.Common.{◌≡◌, ℕ, cond, not, ◌==◌, ◌&&◌, List, [], ◌∷◌, ◌++◌, Option, Some, None, map, fold, refl, arith}
use Rattle.std.specs.Prelude.{nat_le, slice_index}
use Rattle.std.proofs.lemmas.Bool.{eqb-true, eq-eqb}
use Rattle.std.proofs.lemmas.List.{get_or_append_left, get_or_at, length-map, map-append}
use Rattle.node_set.specs.Ascending.{has}
use Rattle.entry_word.specs.declared.address.Address.{Address}
use Rattle.directory.specs.Settings.{Setting}
use Rattle.directory.specs.Courses.{Move, Course, stop, base, address_node}
use Rattle.directory.specs.Writes.{Write, entry_at, old_home}
use Rattle.directory.specs.States.{entry_after}
use Rattle.trail_laws.proofs.Links.{IsSound, base-low}
use Rattle.trail_laws.proofs.ClosedMarks.{IsNext, with_move, base-with}

-- the entry at a cluster of a level at rest, and in each phase of a move
abbrev pub rest_entry : Setting → Course → ℕ → ℕ → Option Address
rest_entry setting course level cluster =
    cond (cluster == setting.home level (address_node course level))
    (Some (record { number = base level course.moves; node = address_node course level })) None

abbrev pub new_entry : Move → Option Address
new_entry move = Some (record { number = move.number; node = move.to })

abbrev pub entry_written : Setting → Course → Move → List ℕ → ℕ → ℕ → Option Address
entry_written setting course move written level cluster =
    cond (has level written && cluster == setting.home level move.to) (new_entry move)
    (rest_entry setting course level cluster)

abbrev pub entry_erased : Setting → Course → Move → List ℕ → List ℕ → ℕ → ℕ → Option Address
entry_erased setting course move written erased level cluster =
    cond (has level erased && cluster == old_home setting course level) None
    (entry_written setting course move written level cluster)

-- what writes do to an entry
abbrev pub entered : ℕ → ℕ → Option Address → List Write → Option Address
entered level cluster entry ws = fold (entry_after level cluster) entry ws

-- one address at a cluster of each level
pub entered-levels : (at : ℕ → ℕ) (new : Option Address) (level cluster : ℕ) (entry : Option Address)
    (levels : List ℕ)
    → entered level cluster entry (map (λ l. entry_at l (at l) new) levels)
    ≡ cond (has level levels && cluster == at level) new entry
entered-levels at new level cluster entry [] = refl
entered-levels at new level cluster entry (l ∷ levels) =
    grind (arith, eqb-true, entered-levels at new level cluster (cond (level == l && cluster == at l) new entry) levels)

-- the stop where the address of a level was made, whatever moves come behind, and that of a move
pub old-stop : {setting : Setting} {course : Course} (more : List Move) (level : ℕ) → IsSound setting course
    → slice_index (course.start ∷ map (λ (m : Move). m.to) (course.moves ++ more)) (base level course.moves)
    ≡ address_node course level
old-stop {setting} {course} more level sound = grind (arith, map-append, length-map, base-low, get_or_append_left)

pub new-stop : {setting : Setting} {course : Course} {move : Move} → IsNext setting course move
    → stop (with_move course move) move.number ≡ move.to
new-stop {course} {move} next = grind (arith, map-append, length-map, get_or_at)

-- when a move has made all its writes its subscriber rests again
pub entries-rest : {setting : Setting} {course : Course} {move : Move} (written erased : List ℕ) (level cluster : ℕ)
    → IsSound setting course → IsNext setting course move
    → has level written ≡ nat_le level move.renewed → has level erased
    ≡ (nat_le level move.renewed && not (old_home setting course level == setting.home level move.to))
    → entry_erased setting course move written erased level cluster
    ≡ rest_entry setting (with_move course move) level cluster
entries-rest {setting} {course} {move} written erased level cluster sound next all gone =
    grind (arith, base-with, new-stop, old-stop, eqb-true, eq-eqb)
