-- What a handset stands for: a start node, the steps that it has begun, and how many of their
-- visits it has made. It keeps the node and the weight of each level, and the trail, as the
-- course of the steps has them; and the visits that are left are the writes of its stage and
-- those after it.
-- Key laws: `Handset::new`, `begin`, `switch` and `made`, by their clauses `stands`; `commits`
-- tells the write that commits a move.
use Rattle.std.specs.Prelude.{◌≡◌, ℕ, ◌<◌, ◌≤◌, Bool, true, false, List, [], ◌∷◌, ◌++◌, drop, filter_map, fold, length, map, slice_index, slice_index_or, take}
use Rattle.std.specs.Option.{is_some}
use Rattle.node_set.specs.Ascending.{has}
use Rattle.entry_word.specs.declared.visit.Act.{Act}
use Rattle.entry_word.specs.declared.visit.Visit.{Visit}
use Rattle.directory.specs.Amid.{course_of}
use Rattle.directory.specs.Settings.{Setting, levels, start}
use Rattle.directory.specs.Courses.{Step, move_to, switch_off, switch_on, Move, Course, last_stop, address_node, gathered_weight, next_move}
use Rattle.directory.specs.Writes.{visits, visit_of, trail}
use Rattle.directory.specs.Puts.{ends_off, mark_put, node_put}
use Rattle.directory.specs.Standing.{Commit, commit_of}
use Rattle.handset.specs.declared.stage.Stage.{Stage}
use Rattle.handset.specs.declared.stage.Stage.TheVariants.{Resting, Coming, Renewing, Committing, Confirming, Erasing, Purging, Switching}
use Rattle.handset.specs.Condition.{HandsetData}
use Rattle.handset.specs.StepWrites.{left_at}

-- the step that a switch is
abbrev pub switch_to : Bool → Step
switch_to true = switch_off
switch_to false = switch_on

-- the step under way at a stage
abbrev pub under_way : Move → Stage → List Step
under_way move Resting = []
under_way move Coming = move_to move.to ∷ []
under_way move (Renewing level) = move_to move.to ∷ []
under_way move Committing = move_to move.to ∷ []
under_way move Confirming = move_to move.to ∷ []
under_way move (Erasing level) = move_to move.to ∷ []
under_way move (Purging node) = move_to move.to ∷ []
under_way move (Switching off) = switch_to off ∷ []

-- a move is the next one of the course, and the subscriber is on
abbrev pub IsNextMove : Setting → Course → Move → Type 0
IsNextMove setting course move =
    (move ≡ next_move setting course move.to) × (course.is_off ≡ false)

-- at the stages of a move, the move under way is the next one
abbrev pub ComesNext : Setting → Course → Move → Stage → Type 0
ComesNext setting course move Resting = Unit {0}
ComesNext setting course move Coming = IsNextMove setting course move
ComesNext setting course move (Renewing level) = IsNextMove setting course move
ComesNext setting course move Committing = IsNextMove setting course move
ComesNext setting course move Confirming = IsNextMove setting course move
ComesNext setting course move (Erasing level) = IsNextMove setting course move
ComesNext setting course move (Purging node) = IsNextMove setting course move
ComesNext setting course move (Switching off) = Unit {0}

-- where a subscriber stands at a stage, and the number of its moves, when this course went
-- before the step under way
abbrev pub place_at : Course → Move → Stage → ℕ
place_at course move Resting = last_stop course
place_at course move Coming = last_stop course
place_at course move (Renewing level) = last_stop course
place_at course move Committing = last_stop course
place_at course move Confirming = move.to
place_at course move (Erasing level) = move.to
place_at course move (Purging node) = move.to
place_at course move (Switching off) = last_stop course

-- the number of its moves at a stage, by the commits made
abbrev pub number_at : Course → Move → Stage → ℕ
number_at course move Resting = length course.moves
number_at course move Coming = length course.moves
number_at course move (Renewing level) = length course.moves
number_at course move Committing = length course.moves
number_at course move Confirming = move.number
number_at course move (Erasing level) = move.number
number_at course move (Purging node) = move.number
number_at course move (Switching off) = length course.moves

-- whether an act commits a move
abbrev pub is_commit : Act → Bool
is_commit act = is_some (commit_of (node_put act) (mark_put act))

-- the commits among some puts
abbrev pub commits_in : List Visit → List Commit
commits_in puts =
    filter_map (λ visit. commit_of (node_put visit.act) (mark_put visit.act)) puts

-- a handset shows what these puts tell of its subscriber: where it stands, its number, and
-- whether it is off
pub record Shows (setting : Setting) (handset : HandsetData) (puts : List Visit) : Type 0 where
  pub place : handset.place
      ≡ fold (λ node commit. commit.to) (start setting handset.sub) (commits_in puts)
  pub number : handset.number ≡ length (commits_in puts)
  pub is_off : handset.is_off ≡ ends_off puts

-- a handset at a stage stands for these steps and so many visits made
pub record StandsAt (setting : Setting) (handset : HandsetData) (stage : Stage) (steps : List Step)
    (made : ℕ) : Type 0 where
  -- the steps that are over
  pub over : List Step
  pub begun : steps ≡ over ++ under_way handset.last stage
  pub move : ComesNext setting (course_of setting handset.sub over) handset.last stage
  pub place : handset.place ≡ place_at (course_of setting handset.sub over) handset.last stage
  pub number : handset.number ≡ number_at (course_of setting handset.sub over) handset.last stage
  pub is_off : handset.is_off ≡ (course_of setting handset.sub over).is_off
  pub addresses : (level : ℕ) → level < levels setting
      → slice_index handset.addresses level
      ≡ address_node (course_of setting handset.sub over) level
  pub gathered : (level : ℕ) → level < levels setting
      → slice_index handset.gathered level ≡ gathered_weight (course_of setting handset.sub steps)
      level
  pub trail : (to node : ℕ) → node < setting.nodes
      → slice_index_or handset.trail node false
      ≡ has node (trail setting (course_of setting handset.sub over) (next_move setting
      (course_of setting handset.sub over) to))
  pub shows : Shows setting handset (take made (visits setting handset.sub steps))
  pub few : made ≤ length (visits setting handset.sub steps)
  pub left : drop made (visits setting handset.sub steps) ≡ map (visit_of handset.sub)
      (left_at setting handset stage)

-- a handset stands for these steps and so many visits made
abbrev pub StandsForSteps : Setting → HandsetData → List Step → ℕ → Type 0
StandsForSteps setting handset steps made = StandsAt setting handset handset.stage steps made
