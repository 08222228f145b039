-- What a subscriber's cells show in closed form: at rest, and in each phase of a move.
use Rattle.std.proofs.Common.{◌≡◌, ◌⊎◌, ℕ, suc, ◌<◌, ◌≤◌, Bool, false, cond, not, ◌==◌, ◌&&◌, List, [], ◌∷◌, ◌++◌, Option, true, map}
use Rattle.node_set.specs.Ascending.{has, sift}
use Rattle.entry_word.specs.declared.mark.PresenceMark.{PresenceMark}
use Rattle.entry_word.specs.declared.address.Address.{Address}
use Rattle.directory.specs.Settings.{Setting}
use Rattle.directory.specs.Courses.{Move, Course}
use Rattle.directory.specs.Writes.{numbers_from, old_home, trail}
use Rattle.directory.specs.Standing.{Commit, commit_by}
use Rattle.trail_laws.proofs.Links.{IsSound}
use Rattle.trail_laws.proofs.ClosedMarks.{IsNext, rest_mark, mark_coming, mark_passing, mark_erasing}
use Rattle.trail_laws.proofs.ClosedEntries.{rest_entry, entry_written, entry_erased}

-- the levels whose new address a move has written, the levels whose old address it has erased, and the nodes that it
-- has purged
abbrev pub renewed_levels : Move → List ℕ
renewed_levels move = numbers_from 0 (suc move.renewed)

abbrev pub old_levels : Setting → Course → Move → List ℕ
old_levels setting course move = sift (λ level. not (old_home setting course level == setting.home level move.to))
    0 (suc move.renewed)

abbrev pub purge_nodes : Setting → Course → Move → List ℕ
purge_nodes setting course move = sift (λ node. has node (trail setting course move) && not (node == move.to)) 0
    setting.nodes

abbrev pub purged_nodes : Setting → Course → Move → List ℕ
purged_nodes setting course move = cond (move.renewed == setting.top) (purge_nodes setting course move) []

-- a phase of a move
pub data Phase : Type 0 where
  coming : (written : List ℕ) → Phase
  passage : Phase
  clearing : (erased purged : List ℕ) → Phase

abbrev pub phase_mark : Setting → Course → Move → Phase → ℕ → PresenceMark
phase_mark setting course move (coming written) v = mark_coming setting course move v
phase_mark setting course move passage v = mark_passing setting course move v
phase_mark setting course move (clearing erased purged) v = mark_erasing setting course move purged v

abbrev pub phase_entry : Setting → Course → Move → Phase → ℕ → ℕ → Option Address
phase_entry setting course move (coming written) level cluster = entry_written setting course move written level
    cluster
phase_entry setting course move passage level cluster = entry_written setting course move
    (renewed_levels move) level cluster
phase_entry setting course move (clearing erased purged) level cluster = entry_erased setting course move
    (renewed_levels move) erased level cluster

abbrev pub phase_commits : Course → Move → Phase → List Commit
phase_commits course move (coming written) = map commit_by course.moves
phase_commits course move passage = map commit_by (course.moves ++ move ∷ [])
phase_commits course move (clearing erased purged) = map commit_by (course.moves ++ move ∷ [])

-- where old addresses are erased: the new node isn't purged, what is erased is old, and before a node is purged all is
-- erased of a move that renews the top level
pub record IsCleared (setting : Setting) (course : Course) (move : Move) (erased purged : List ℕ) : Type 0 where
  pub stays : has move.to purged ≡ false
  pub kept : (level : ℕ) → has level (old_levels setting course move) ≡ false → has level erased ≡ false
  pub in_order : (purged ≡ []) ⊎ ((erased ≡ old_levels setting course move) × ((move.renewed == setting.top) ≡ true))

abbrev pub IsPhase : Setting → Course → Move → Phase → Type 0
IsPhase setting course move (clearing erased purged) = IsCleared setting course move erased purged
IsPhase setting course move phase = Unit {0}

-- what is shown of a subscriber: the node where it began, its marks, its entries, its commits, whether it is off, and
-- its moves
pub record Shown : Type 0 where
  pub from : ℕ
  pub marks : ℕ → PresenceMark
  pub entries : ℕ → ℕ → Option Address
  pub commits : List Commit
  pub off : Bool
  pub moves : List Move

-- what is shown of one that rests
pub record IsResting (setting : Setting) (shown : Shown) : Type 0 where
  pub course : Course
  pub sound : IsSound setting course
  pub begins : course.start ≡ shown.from
  pub marks_are : (v : ℕ) → v < setting.nodes → shown.marks v ≡ rest_mark setting course v
  pub entries_are : (level cluster : ℕ) → level ≤ setting.top
      → shown.entries level cluster ≡ rest_entry setting course level cluster
  pub commits_are : shown.commits ≡ map commit_by course.moves
  pub off_is : shown.off ≡ course.is_off
  pub moves_are : shown.moves ≡ course.moves

-- and of one that is in a phase of a move
pub record IsMoving (setting : Setting) (shown : Shown) (phase : Phase) : Type 0 where
  pub course : Course
  pub move : Move
  pub sound : IsSound setting course
  pub next : IsNext setting course move
  pub is_phase : IsPhase setting course move phase
  pub begins : course.start ≡ shown.from
  pub marks_are : (v : ℕ) → v < setting.nodes → shown.marks v ≡ phase_mark setting course move phase v
  pub entries_are : (level cluster : ℕ) → level ≤ setting.top
      → shown.entries level cluster ≡ phase_entry setting course move phase level cluster
  pub commits_are : shown.commits ≡ phase_commits course move phase
  pub off_is : shown.off ≡ false
  pub moves_are : shown.moves ≡ course.moves ++ move ∷ []

abbrev pub View : Setting → Shown → Type 0
View setting shown = IsResting setting shown ⊎ ((phase : Phase) × IsMoving setting shown phase)
