-- What moves cost their subscriber, told by what it writes: each write has a weight, and a move
-- weighs what its writes weigh. The commit is brought to the old node and back; a new address is
-- brought to the leader of its home and back, inside that cluster; and an old address that is
-- erased costs the way to its leader and back. The other marks weigh nothing, and so a switch
-- weighs nothing: what is purged is counted, and not weighed.
-- Key laws: `move_weighs` (a move weighs these three parts, level by level), `purges_are_counted`
-- and `erasures_are_written` (which writes of a move these are); `written_is_bounded` and
-- `purged_is_bounded` (what moves write and purge, by how far they go).
use Rattle.std.specs.Prelude.{ℕ, suc, ◌+◌, ◌*◌, ◌==◌, Bool, true, false, not, List, [], ◌∷◌, Option, Some, None, length, map, sum_by, count_by}
use Rattle.node_set.specs.Ascending.{sift}
use Rattle.entry_word.specs.declared.mark.PresenceMark.{PresenceMark}
use Rattle.entry_word.specs.declared.mark.PresenceMark.TheVariants.{Empty, Here, Gone, Coming, Off}
use Rattle.entry_word.specs.declared.address.Address.{Address}
use Rattle.directory.specs.Amid.{course_of}
use Rattle.directory.specs.Settings.{Setting, start, subs}
use Rattle.directory.specs.Courses.{Step, Move, Course, after_step, course_at, last_stop}
use Rattle.directory.specs.Writes.{Write, mark_at, entry_at, numbers_from, old_home, step_writes, writes}
use Rattle.directory.specs.Orders.{Scripts, steps_of}
use Rattle.move_cost.specs.declared.line.CostLine.{CostLine}

-- the weight of a mark at a node: a Gone is brought there from where the subscriber goes, and back
abbrev pub mark_weight : Setting → ℕ → PresenceMark → ℕ
mark_weight setting node Empty = 0
mark_weight setting node (Here number) = 0
mark_weight setting node (Gone number to) = 2 * setting.distance node to
mark_weight setting node (Coming number from) = 0
mark_weight setting node (Off number) = 0

-- the weight of an entry at a cluster of a level, by a subscriber that goes to a node: an address
-- is brought to the leader inside the cluster, and back; nothing is brought there from the node
abbrev pub entry_weight : Setting → ℕ → ℕ → ℕ → Option Address → ℕ
entry_weight setting node level cluster None =
    2 * setting.distance node (setting.leader level cluster)
entry_weight setting node level cluster (Some address) =
    2 * setting.inside level cluster address.node

-- the weight of a write, by a subscriber that goes to a node
abbrev pub write_weight : Setting → ℕ → Write → ℕ
write_weight setting node (mark_at place mark) = mark_weight setting place mark
write_weight setting node (entry_at level cluster address) =
    entry_weight setting node level cluster address

-- the weight of all writes of a step that comes next in a course
abbrev pub step_weight : Setting → Course → Step → ℕ
step_weight setting course step =
    sum_by (write_weight setting (last_stop (after_step setting course step)))
    (step_writes setting course step)

-- the weight of all writes of steps that come next in a course
unfoldable pub weight_of_steps : Setting → Course → List Step → ℕ
weight_of_steps setting course [] = 0
weight_of_steps setting course (step ∷ steps) =
    step_weight setting course step
    + weight_of_steps setting (after_step setting course step) steps

-- whether a mark says nothing of its subscriber
abbrev pub says_nothing : PresenceMark → Bool
says_nothing Empty = true
says_nothing (Here number) = false
says_nothing (Gone number to) = false
says_nothing (Coming number from) = false
says_nothing (Off number) = false

-- whether a write is a purge: it takes a node from the trail
abbrev pub is_purge : Write → Bool
is_purge (mark_at place mark) = says_nothing mark
is_purge (entry_at level cluster address) = false

-- whether an entry has no address
abbrev pub has_none : Option Address → Bool
has_none None = true
has_none (Some address) = false

-- whether a write erases an address
abbrev pub is_erasure : Write → Bool
is_erasure (mark_at place mark) = false
is_erasure (entry_at level cluster address) = has_none address

-- the weight of all moves of a subscriber that makes these steps: how far it goes
abbrev pub moved : Setting → ℕ → List Step → ℕ
moved setting sub steps = sum_by (λ move. move.weight) (course_of setting sub steps).moves

-- the weight of all that it writes
abbrev pub written : Setting → ℕ → List Step → ℕ
written setting sub steps = weight_of_steps setting (course_at (start setting sub)) steps

-- how many marks it purges
abbrev pub purged : Setting → ℕ → List Step → ℕ
purged setting sub steps = count_by is_purge (writes setting (course_at (start setting sub)) steps)

-- what the moves of a subscriber cost
abbrev pub cost_line : Setting → ℕ → List Step → CostLine
cost_line setting sub steps =
    record {
      sub = sub;
      moves = length (course_of setting sub steps).moves;
      moved = moved setting sub steps;
      written = written setting sub steps;
      purged = purged setting sub steps;
    }

-- what the moves of each subscriber cost, by its number
abbrev pub cost_lines : Setting → Scripts → List CostLine
cost_lines setting scripts =
    map (λ sub. cost_line setting sub (steps_of scripts sub)) (numbers_from 0 (subs setting))

-- the levels at which a move that comes next erases the old address
abbrev pub erased_levels : Setting → Course → Move → List ℕ
erased_levels setting course move =
    sift (λ level. not (old_home setting course level == setting.home level move.to))
    0 (suc move.renewed)
