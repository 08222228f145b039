-- Where a subscriber stands: the commits of a legal history are the first moves of its course, so it stands at a stop.
use Rattle.std.proofs.Common.{◌≡◌, ℕ, zero, suc, ◌≤◌, List, [], ◌∷◌, ◌++◌, Some, None, length, map, take, fold, refl, sym, ap, ◌∙◌, arith, append_assoc, length-append, inl, inr, ◌⊎◌, ◌+◌}
use Rattle.std.specs.Prelude.{slice_index, filter_map, All}
use Rattle.std.specs.List.{cons_option}
use Rattle.std.proofs.Math.Seq.{take-append-add, take-nil}
use Rattle.std.proofs.lemmas.List.{append-nil, length-take-le, length-map, map-append}
use Rattle.std.proofs.lemmas.List.Elements.{All-cons, All-head, All-map, All-nil, All-tail, All-take, filter_map-append}
use Rattle.entry_word.specs.declared.mark.PresenceMark.TheVariants.{Here, Gone, Coming}
use Rattle.directory.specs.Settings.{Setting, start}
use Rattle.directory.specs.Histories.{puts_to}
use Rattle.directory.specs.Courses.{Step, move_to, Move, Course, course_at, next_move, after_step, after_steps}
use Rattle.directory.specs.Writes.{Write, mark_at, numbers_from, new_address, erasure_writes, purge_writes, move_writes, step_writes, writes}
use Rattle.directory.specs.Puts.{course_in}
use Rattle.directory.specs.Standing.{Commit, commit_by, commits, number}
use Rattle.directory.specs.States.{write_commit}
use Rattle.directory.proofs.StateLaws.{commits-told}
use Rattle.directory.proofs.StepLaws.{all-ends, legal-amid}
use Rattle.entry_word.specs.Marks.{MarksUnpack}
use Rattle.directory.specs.Statements.{CommitsAreMoves, StandsAtStop}
use Rattle.directory.specs.StepLaws.{start-kept}

-- the moves that steps add to a course
abbrev pub added : Setting → Course → List Step → List Move
added setting course [] = []
added setting course (move_to node ∷ steps) = next_move setting course node ∷ added setting
    (after_step setting course (move_to node)) steps
added setting course (step ∷ steps) = added setting (after_step setting course step) steps

pub moves-added : (setting : Setting) (course : Course) (steps : List Step)
    → (after_steps setting course steps).moves ≡ course.moves ++ added setting course steps
moves-added setting course [] = sym (append-nil course.moves)
moves-added setting course (move_to node ∷ steps) =
    grind (arith, moves-added setting (after_step setting course (move_to node)) steps, added, append_assoc)
moves-added setting course (step ∷ steps) = moves-added setting (after_step setting course step) steps

-- a write that is no commit
abbrev IsNoCommit : Write → Type 0
IsNoCommit write = write_commit write ≡ None

none-listed : (xs : List Write) → All IsNoCommit xs → filter_map write_commit xs ≡ []
none-listed [] all = refl
none-listed (x ∷ xs) all = ap (λ o. cons_option o (filter_map write_commit xs)) (All-head IsNoCommit x xs all)
    ∙ none-listed xs (All-tail IsNoCommit x xs all)

-- of a list with one commit a front has none or that one
part-listed : (xs : List Write) (y : Write) (zs : List Write) (commit : Commit) (k : ℕ) → All IsNoCommit xs
    → All IsNoCommit zs → write_commit y ≡ Some commit
    → (filter_map write_commit (take k (xs ++ y ∷ zs)) ≡ [])
    ⊎ (filter_map write_commit (take k (xs ++ y ∷ zs)) ≡ commit ∷ [])
part-listed xs y zs commit zero f g h = inl refl
part-listed [] y zs commit (suc k) f g h = inr (rw (h, none-listed (take k zs) (All-take IsNoCommit k zs g)))
part-listed (x ∷ xs) y zs commit (suc k) f g h =
    let none : write_commit x ≡ None = All-head IsNoCommit x xs f in
    rw none (part-listed xs y zs commit k (All-tail IsNoCommit x xs f) g h)

-- a front of a move's writes has its commit or not, and all of them have it
move-listed : (setting : Setting) (course : Course) (move : Move) (k : ℕ)
    → ((filter_map write_commit (take k (move_writes setting course move)) ≡ [])
    ⊎ (filter_map write_commit (take k (move_writes setting course move)) ≡ commit_by move ∷ []))
    × (filter_map write_commit (move_writes setting course move) ≡ commit_by move ∷ [])
move-listed setting course move k = (
  part-listed first gone last (commit_by move) k none_first none_last refl,
  filter_map-append write_commit first (gone ∷ last) ∙ rw (none-listed first none_first, none-listed last none_last),
)
  where
    numbers : List ℕ
    numbers = numbers_from 0 (suc move.renewed)

    first : List Write
    first = mark_at move.to (Coming move.number move.from) ∷ map (new_address setting move) numbers

    gone : Write
    gone = mark_at move.from (Gone move.number move.to)

    last : List Write
    last = mark_at move.to (Here move.number) ∷ (erasure_writes setting course move ++ purge_writes setting course move)

    none_first : All IsNoCommit first
    none_first = All-cons IsNoCommit _ (map (new_address setting move) numbers) refl
        (All-map IsNoCommit (new_address setting move) numbers (λ i d h. refl))

    none_last : All IsNoCommit last
    none_last = grind (arith, all-ends IsNoCommit setting course move (λ level cluster. refl) (λ node. refl))

-- the writes of steps commit to the moves that they add, and a front of those of one step to its first
steps-listed : (setting : Setting) (course : Course) (steps : List Step)
    → filter_map write_commit (writes setting course steps) ≡ map commit_by (added setting course steps)
unfolding writes
steps-listed setting course [] = refl
steps-listed setting course (move_to node ∷ steps) =
    filter_map-append write_commit (step_writes setting course (move_to node)) _
    ∙ rw (
      (move-listed setting course (next_move setting course node) 0).1,
      steps-listed setting (after_step setting course (move_to node)) steps,
    )
steps-listed setting course (step ∷ steps) = steps-listed setting (after_step setting course step) steps

under-listed : (setting : Setting) (course : Course) (under : List Step) (k : ℕ) → length under ≤ 1
    → (count : ℕ) × (count ≤ length (added setting course under))
    × (filter_map write_commit (take k (writes setting course under))
    ≡ map commit_by (take count (added setting course under)))
unfolding writes
under-listed setting course [] k one = (0, omega arith, ap (filter_map write_commit) (take-nil k))
under-listed setting course (move_to node ∷ []) k one =
    rw (append-nil (move_writes setting course (next_move setting course node)))
    (elim (move-listed setting course (next_move setting course node) k).0 [
      | inl none ↦ (0, omega arith, none)
      | inr its ↦ (1, omega arith, its)
    ])
under-listed setting course (step ∷ []) k one = grind (
  arith,
  none-listed (take k (step_writes setting course step))
      (All-take IsNoCommit k _ (All-cons IsNoCommit _ [] refl (All-nil IsNoCommit))),
)
under-listed setting course (first ∷ second ∷ more) k one = absurd (omega (arith, one))

added-append : (setting : Setting) (course : Course) (xs ys : List Step)
    → added setting course (xs ++ ys) ≡ added setting course xs ++ added setting (after_steps setting course xs) ys
added-append setting course [] ys = refl
added-append setting course (move_to node ∷ xs) ys = ap (λ moves. next_move setting course node ∷ moves)
    (added-append setting (after_step setting course (move_to node)) xs ys)
added-append setting course (step ∷ xs) ys = added-append setting (after_step setting course step) xs ys

-- the commits of a legal history are the first moves of its course
pub commits-are_moves : MarksUnpack → CommitsAreMoves
commits-are_moves unpacks setting sub history low legal =
    let first = course_at (start setting sub) in
    let far = legal-amid unpacks setting sub (puts_to sub history) low legal in
    let before = added setting first far.before in
    let under = added setting (after_steps setting first far.before) far.under in
    let last = under-listed setting (after_steps setting first far.before) far.under far.made far.one in
    let moves : (course_in setting sub (puts_to sub history)).moves ≡ before ++ under =
    grind (arith, moves-added, added-append) in
    let listed : commits sub history ≡ map commit_by (before ++ take last.0 under) =
    commits-told unpacks setting sub history low legal ∙ grind (arith, filter_map-append, steps-listed, map-append) in
    let count : number sub history ≡ length before + last.0 =
    grind (arith, length-map, length-append, length-take-le) in
    grind (arith, count, last, moves, listed, length-append, take-append-add)

-- the node after the first moves of a list
last-stop : (start count : ℕ) (moves : List Move) → count ≤ length moves
    → fold (λ node (commit : Commit). commit.to) start (map commit_by (take count moves))
    ≡ slice_index (start ∷ map (λ (move : Move). move.to) moves) count
last-stop start zero moves few = refl
last-stop start (suc count) [] few = absurd (omega arith)
last-stop start (suc count) (move ∷ moves) few = last-stop move.to count moves (omega arith)

-- so a subscriber stands at a stop of its course
pub standing-is_stop : MarksUnpack → StandsAtStop
standing-is_stop unpacks setting sub history low legal =
    let made = commits-are_moves unpacks setting sub history low legal in
    let stop = last-stop (start setting sub) (number sub history) (course_in setting sub (puts_to sub history)).moves
    made.0 in
    grind (arith, made, stop, start-kept)
