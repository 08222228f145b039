-- The marks of a subscriber in closed form: at rest after a course, and in each phase of the move that comes next.
use Rattle.std.proofs.lemmas.Bool.{or_parts}
use Rattle.trail_laws.proofs.Links.{stop-inside, IsSound, base-low, linked-push, renewed-low}
use Rattle.std.proofs.Common.{◌≡◌, ◌≢◌, ℕ, suc, ◌<◌, ◌≤◌, true, false, cond, not, ◌==◌, ◌&&◌, List, [], ◌∷◌, ◌++◌, length, map, drop, fold, refl, ap, ◌∙◌, arith, length-append}
use Rattle.std.specs.Prelude.{if◌then◌else◌, nat_le}
use Rattle.std.proofs.lemmas.Bool.Decides.{nat_tests}
use Rattle.std.proofs.lemmas.List.{drop-append-le, map-append}
use Rattle.std.proofs.Math.ListN.{drop_of_length-le}
use Rattle.std.proofs.lemmas.List.Sums.{fold-append}
use Rattle.node_set.specs.Ascending.{has}
use Rattle.entry_word.specs.declared.mark.PresenceMark.{PresenceMark}
use Rattle.entry_word.specs.declared.mark.PresenceMark.TheVariants.{Empty, Here, Gone, Coming, Off}
use Rattle.directory.specs.Settings.{Setting}
use Rattle.directory.specs.Courses.{Move, Course, last_stop, base, next_move, MayMove}
use Rattle.directory.specs.Writes.{Write, mark_at, trail}
use Rattle.directory.specs.States.{mark_after}
use Rattle.node_set.specs.SetLaws.{has-append}

-- the marks that moves leave behind: at each node the last leaving
unfoldable pub trail_mark : List Move → ℕ → PresenceMark → PresenceMark
trail_mark [] v mark = mark
trail_mark (move ∷ later) v mark = trail_mark later v (if v == move.from then Gone move.number move.to else mark)

-- the moves since the top level was renewed
abbrev pub since_top : Setting → Course → List Move
since_top setting course = drop (base setting.top course.moves) course.moves

-- the mark of one who is there
abbrev pub there : Course → PresenceMark
there course = cond course.is_off (Off (length course.moves)) (Here (length course.moves))

-- the mark at a node at rest
abbrev pub rest_mark : Setting → Course → ℕ → PresenceMark
rest_mark setting course v = cond (v == last_stop course) (there course)
    (trail_mark (since_top setting course) v Empty)

-- and in each phase of a move
abbrev pub mark_coming : Setting → Course → Move → ℕ → PresenceMark
mark_coming setting course move v = cond (v == move.to) (Coming move.number move.from) (rest_mark setting course v)

abbrev pub mark_passing : Setting → Course → Move → ℕ → PresenceMark
mark_passing setting course move v = cond (v == move.from) (Gone move.number move.to)
    (mark_coming setting course move v)

abbrev pub mark_erasing : Setting → Course → Move → List ℕ → ℕ → PresenceMark
mark_erasing setting course move purged v =
    cond (has v purged) Empty (cond (v == move.to) (Here move.number) (mark_passing setting course move v))

-- what writes do to the mark at a node
abbrev pub marked : ℕ → PresenceMark → List Write → PresenceMark
marked v mark ws = fold (mark_after v) mark ws

-- writes that leave a value alone, one by one
pub fold-still : {A B : Type 0} (f : A → Write → A) (a : A) (g : B → Write) (xs : List B)
    → ((x : B) → f a (g x) ≡ a) → fold f a (map g xs) ≡ a
fold-still f a g [] still = refl
fold-still f a g (x ∷ xs) still = ap (λ b. fold f b (map g xs)) (still x) ∙ fold-still f a g xs still

pub marked-purges : (v : ℕ) (mark : PresenceMark) (nodes : List ℕ)
    → marked v mark (map (λ node. mark_at node Empty) nodes) ≡ cond (has v nodes) Empty mark
marked-purges v mark [] = refl
marked-purges v mark (node ∷ nodes) = grind (arith, marked-purges v (cond (v == node) Empty mark) nodes)

-- the trail with one more move
pub trail_mark-push : (moves : List Move) (move : Move) (v : ℕ) (mark : PresenceMark)
    → trail_mark (moves ++ move ∷ []) v mark ≡ cond (v == move.from) (Gone move.number move.to)
    (trail_mark moves v mark)
unfolding trail_mark
trail_mark-push [] move v mark = refl
trail_mark-push (first ∷ later) move v mark = trail_mark-push later move v
    (cond (v == first.from) (Gone first.number first.to) mark)

-- at a node that no move left there is no mark
pub trail_mark-none : (moves : List Move) (v : ℕ) (mark : PresenceMark)
    → has v (map (λ (move : Move). move.from) moves) ≡ false → trail_mark moves v mark ≡ mark
unfolding trail_mark
trail_mark-none [] v mark h = refl
trail_mark-none (move ∷ later) v mark h =
    grind (arith, or_parts, trail_mark-none later v mark)

-- a move that comes next
pub record IsNext (setting : Setting) (course : Course) (move : Move) : Type 0 where
  pub number : move.number ≡ suc (length course.moves)
  pub from : move.from ≡ last_stop course
  pub weight : move.weight ≡ setting.distance move.from move.to
  pub renewed : move.renewed ≤ setting.top
  pub inside : move.to < setting.nodes
  pub moving : move.to ≢ move.from
  pub is_on : course.is_off ≡ false

-- it begins at a node of the network
pub from-inside : {setting : Setting} {course : Course} {move : Move} → IsSound setting course
    → IsNext setting course move → move.from < setting.nodes
from-inside sound next = rw next.from (stop-inside sound)

pub is-next : {setting : Setting} {course : Course} {node : ℕ} → MayMove setting course node
    → IsNext setting course (next_move setting course node)
is-next {setting} {course} {node} may = grind (arith, renewed-low)

-- the course after a move
abbrev pub with_move : Course → Move → Course
with_move course move = record course { moves = course.moves ++ move ∷ [] }

pub sound-with : {setting : Setting} {course : Course} {move : Move} → IsSound setting course
    → IsNext setting course move → IsSound setting (with_move course move)
sound-with {setting} {course} {move} sound next = grind (arith, linked-push)

pub stop-with : (course : Course) (move : Move) → last_stop (with_move course move) ≡ move.to
stop-with course move = fold-append (λ node (m : Move). m.to) course.start course.moves (move ∷ [])

count-with : (course : Course) (move : Move) → length (with_move course move).moves ≡ suc (length course.moves)
count-with course move = omega (arith, length-append course.moves (move ∷ []))

pub base-with : (level : ℕ) (course : Course) (move : Move)
    → base level (with_move course move).moves ≡ cond (nat_le level move.renewed) move.number
    (base level course.moves)
base-with level course move = grind (arith, fold-append)

-- when a move has made all its writes its subscriber rests again
pub marks-rest : {setting : Setting} {course : Course} {move : Move} (purged : List ℕ) (v : ℕ)
    → IsSound setting course → IsNext setting course move
    → ((move.renewed == setting.top) ≡ true → has v purged
    ≡ (has v (trail setting course move) && not (v == move.to)))
    → ((move.renewed == setting.top) ≡ false → has v purged ≡ false)
    → mark_erasing setting course move purged v ≡ rest_mark setting (with_move course move) v
unfolding trail_mark
marks-rest {setting} {course} {move} purged v sound next whole none =
    grind (
      arith,
      nat_tests,
      stop-with,
      with_move,
      count-with,
      base-with,
      base-low,
      drop_of_length-le,
      drop-append-le,
      map-append,
      has-append,
      trail_mark-none,
      trail_mark-push,
    )
