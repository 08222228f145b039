-- What the writes of steps leave in closed form: of a move in each phase, and of whole steps.
use Rattle.std.proofs.Common.{◌≡◌, inl, inr, ℕ, suc, ◌<◌, Bool, true, false, cond, not, ◌==◌, ◌&&◌, List, [], ◌∷◌, ◌++◌, None, map, fold, refl, sym, ap, ◌∙◌, arith, append_assoc}
use Rattle.std.specs.Prelude.{nat_le, filter_map}
use Rattle.std.specs.List.{cons_option}
use Rattle.std.proofs.lemmas.Bool.Decides.{nat_tests}
use Rattle.std.proofs.lemmas.List.{append-nil, map-append}
use Rattle.std.proofs.lemmas.List.Sums.{fold-append}
use Rattle.std.proofs.lemmas.List.Elements.{filter_map-append}
use Rattle.node_set.specs.Ascending.{has, sift}
use Rattle.node_set.specs.SetLaws.{has-passing, passing_over}
use Rattle.entry_word.specs.declared.mark.PresenceMark.TheVariants.{Empty, Here, Gone, Coming}
use Rattle.directory.specs.Settings.{Setting}
use Rattle.directory.specs.Courses.{Step, move_to, Move, Course, next_move, after_step, after_steps, MayStep, MaySteps}
use Rattle.directory.specs.Writes.{Write, mark_at, entry_at, new_address, old_home, move_writes, step_writes, writes}
use Rattle.directory.specs.Standing.{commit_by}
use Rattle.directory.specs.States.{entry_after, mark_after, write_commit, write_off}
use Rattle.trail_laws.proofs.Links.{IsSound, sound-step}
use Rattle.trail_laws.proofs.ClosedMarks.{IsNext, is-next, rest_mark, mark_passing, mark_erasing, fold-still, marked, marked-purges, with_move, marks-rest}
use Rattle.trail_laws.proofs.ClosedEntries.{rest_entry, entry_written, entry_erased, new_entry, entered, entered-levels, entries-rest}
use Rattle.trail_laws.proofs.ClosedViews.{clearing, coming, old_levels, passage, Phase, phase_commits, phase_entry, phase_mark, purge_nodes, purged_nodes, renewed_levels}
use Rattle.std.proofs.lemmas.Bool.{cases_Bool, cases_lt}
use Rattle.std.proofs.Math.Bool.{and-true}

-- ---- the writes of a move in each phase, by lists of levels and nodes
abbrev pub erasures : Setting → Course → List ℕ → List Write
erasures setting course levels = map (λ level. entry_at level (old_home setting course level) None) levels

abbrev pub purges : List ℕ → List Write
purges nodes = map (λ node. mark_at node Empty) nodes

unfoldable pub phase_writes : Setting → Course → Move → Phase → List Write
phase_writes setting course move (coming written) =
    mark_at move.to (Coming move.number move.from) ∷ map (new_address setting move) written
phase_writes setting course move passage = mark_at move.to (Coming move.number move.from) ∷
    (map (new_address setting move) (renewed_levels move) ++ mark_at move.from (Gone move.number move.to) ∷ [])
phase_writes setting course move (clearing erased purged) =
    mark_at move.to (Coming move.number move.from) ∷ (map (new_address setting move) (renewed_levels move)
    ++ (mark_at move.from (Gone move.number move.to) ∷ (mark_at move.to (Here move.number)
    ∷ (erasures setting course erased ++ purges purged))))

-- writes that tell no commit
none-told : {A : Type 0} (g : A → Write) (xs : List A) → ((x : A) → write_commit (g x) ≡ None)
    → filter_map write_commit (map g xs) ≡ []
none-told g [] none = refl
none-told g (x ∷ xs) none = ap (λ o. cons_option o (filter_map write_commit (map g xs))) (none x) ∙ none-told g xs none

-- what the writes of a phase leave
pub record Leaves (setting : Setting) (course : Course) (move : Move) (phase : Phase) : Type 0 where
  pub marks : (v : ℕ) → marked v (rest_mark setting course v) (phase_writes setting course move phase)
      ≡ phase_mark setting course move phase v
  pub entries : (level cluster : ℕ)
      → entered level cluster (rest_entry setting course level cluster) (phase_writes setting course move phase)
      ≡ phase_entry setting course move phase level cluster
  pub commits : map commit_by course.moves ++ filter_map write_commit (phase_writes setting course move phase)
      ≡ phase_commits course move phase
  pub on : (off : Bool) → fold (λ o write. write_off write) off (phase_writes setting course move phase) ≡ false

module _ (setting : Setting) (course : Course) (move : Move) where
  addresses-still : {A : Type 0} (f : A → Write → A) (a : A) (written : List ℕ)
      → ((level : ℕ) → f a (new_address setting move level) ≡ a) → fold f a (map (new_address setting move) written) ≡ a
  addresses-still f a written still = fold-still f a (new_address setting move) written still

  none-new : (written : List ℕ) → filter_map write_commit (map (new_address setting move) written) ≡ []
  none-new written = none-told (new_address setting move) written (λ level. refl)

  pub leaves : (phase : Phase) → Leaves setting course move phase
  unfolding phase_writes
  leaves (coming written) = record {
    marks = λ v. addresses-still (mark_after v) _ written (λ level. refl);
    entries = λ level cluster. entered-levels (λ l. setting.home l move.to) (new_entry move) level cluster
        (rest_entry setting course level cluster) written;
    commits = ap (λ cs. map commit_by course.moves ++ cs) (none-new written) ∙ append-nil (map commit_by course.moves);
    on = λ off. addresses-still (λ o write. write_off write) false written (λ level. refl);
  }
  leaves passage = record {
    marks = grind (arith, fold-append, addresses-still);
    entries = λ level cluster. grind (
      arith,
      fold-append,
      entered-levels (λ l. setting.home l move.to) (new_entry move) level cluster
          (rest_entry setting course level cluster) (renewed_levels move),
    );
    commits = grind (arith, filter_map-append, none-new, map-append);
    on = grind (arith, fold-append);
  }
  leaves (clearing erased purged) = record {
    marks = λ v. grind (
      arith,
      fold-append,
      addresses-still,
      fold-still (mark_after v) (cond (v == move.to) (Here move.number) (mark_passing setting course move v))
          (λ (level : ℕ). entry_at level (old_home setting course level) None) erased (λ level. refl),
      marked-purges,
    );
    entries = λ level cluster. grind (
      arith,
      fold-append,
      entered-levels (λ l. setting.home l move.to) (new_entry move) level cluster
          (rest_entry setting course level cluster) (renewed_levels move),
      entered-levels (λ l. old_home setting course l) None level cluster
          (entry_written setting course move (renewed_levels move) level cluster) erased,
      fold-still (entry_after level cluster)
          (entry_erased setting course move (renewed_levels move) erased level cluster)
          (λ (node : ℕ). mark_at node Empty) purged (λ node. refl),
    );
    commits = grind (arith, filter_map-append, none-new, none-told, map-append);
    on = grind (arith, fold-append, fold-still);
  }

-- ---- a whole move
abbrev pub whole_phase : Setting → Course → Move → Phase
whole_phase setting course move = clearing (old_levels setting course move) (purged_nodes setting course move)

pub whole-writes : (setting : Setting) (course : Course) (move : Move)
    → move_writes setting course move ≡ phase_writes setting course move (whole_phase setting course move)
unfolding phase_writes
whole-writes setting course move = grind arith

-- which levels and nodes pass a test
in-passing : (test : ℕ → Bool) (x n : ℕ) → has x (sift test 0 (suc n)) ≡ (nat_le x n && test x)
in-passing test x n = elim (cases_lt n x) as (λ _. has x (sift test 0 (suc n)) ≡ (nat_le x n && test x)) [
  | inr low ↦ let e : nat_le x n ≡ true = grind (arith, nat_tests, low) in rw e
      (has-passing test x 0 (suc n) (omega arith) (omega arith))
  | inl high ↦ grind (arith, passing_over)
]

pub in-levels : (level : ℕ) (move : Move) → has level (renewed_levels move) ≡ nat_le level move.renewed
in-levels level move = in-passing (λ p. true) level move.renewed ∙ and-true (nat_le level move.renewed)

-- when all is written the subscriber rests
pub whole-marks : {setting : Setting} {course : Course} {move : Move} (v : ℕ) → v < setting.nodes
    → IsSound setting course → IsNext setting course move
    → mark_erasing setting course move (purged_nodes setting course move) v
    ≡ rest_mark setting (with_move course move) v
whole-marks {setting} {course} {move} v low sound next =
    grind (arith, purged_nodes, purge_nodes, has-passing, marks-rest)

pub whole-entries : {setting : Setting} {course : Course} {move : Move} (level cluster : ℕ) → IsSound setting course
    → IsNext setting course move
    → entry_erased setting course move (renewed_levels move) (old_levels setting course move) level cluster
    ≡ rest_entry setting (with_move course move) level cluster
whole-entries {setting} {course} {move} level cluster sound next =
    entries-rest (renewed_levels move) (old_levels setting course move) level cluster sound next (in-levels level move)
    (in-passing (λ l. not (old_home setting course l == setting.home l move.to)) level move.renewed)

-- ---- whole steps
-- a fold over the writes of steps, where it is told of each step
fold-steps : {A : Type 0} (f : A → Write → A) (setting : Setting) (its : Course → A)
    → ((course : Course) (step : Step) → IsSound setting course → MayStep setting course step
    → fold f (its course) (step_writes setting course step) ≡ its (after_step setting course step))
    → (course : Course) (steps : List Step) → IsSound setting course → MaySteps setting course steps
    → fold f (its course) (writes setting course steps) ≡ its (after_steps setting course steps)
unfolding writes MaySteps
fold-steps f setting its one course [] sound may = refl
fold-steps f setting its one course (step ∷ steps) sound may =
    fold-append f (its course) (step_writes setting course step) (writes setting (after_step setting course step) steps)
    ∙ (ap (λ a. fold f a (writes setting (after_step setting course step) steps)) (one course step sound may.0)
    ∙ fold-steps f setting its one (after_step setting course step) steps (sound-step step sound may.0) may.1)

pub marks-steps : {setting : Setting} {course : Course} (steps : List Step) (v : ℕ) → v < setting.nodes
    → IsSound setting course → MaySteps setting course steps
    → marked v (rest_mark setting course v) (writes setting course steps)
    ≡ rest_mark setting (after_steps setting course steps) v
marks-steps {setting} {course} steps v low = fold-steps (mark_after v) setting
    (λ c. rest_mark setting c v) one course steps
  where
    one : (course : Course) (step : Step) → IsSound setting course → MayStep setting course step
        → marked v (rest_mark setting course v) (step_writes setting course step)
        ≡ rest_mark setting (after_step setting course step) v
    one course (move_to node) sound may =
        let move : Move = next_move setting course node in
        ap (marked v (rest_mark setting course v)) (whole-writes setting course move)
        ∙ ((leaves setting course move (whole_phase setting course move)).marks v
        ∙ whole-marks v low sound (is-next may))
    one course step sound may = grind (arith, nat_tests, cases_Bool)

pub entries-steps : {setting : Setting} {course : Course} (steps : List Step) (level cluster : ℕ)
    → IsSound setting course → MaySteps setting course steps
    → entered level cluster (rest_entry setting course level cluster) (writes setting course steps)
    ≡ rest_entry setting (after_steps setting course steps) level cluster
entries-steps {setting} {course} steps level cluster =
    fold-steps (entry_after level cluster) setting (λ c. rest_entry setting c level cluster) one course steps
  where
    one : (course : Course) (step : Step) → IsSound setting course → MayStep setting course step
        → entered level cluster (rest_entry setting course level cluster) (step_writes setting course step)
        ≡ rest_entry setting (after_step setting course step) level cluster
    one course (move_to node) sound may =
        let move : Move = next_move setting course node in
        ap (entered level cluster (rest_entry setting course level cluster)) (whole-writes setting course move)
        ∙ ((leaves setting course move (whole_phase setting course move)).entries level cluster
        ∙ whole-entries level cluster sound (is-next may))
    one course step sound may = refl

pub commits-steps : (setting : Setting) (course : Course) (steps : List Step)
    → map commit_by course.moves ++ filter_map write_commit (writes setting course steps)
    ≡ map commit_by (after_steps setting course steps).moves
unfolding writes
commits-steps setting course [] = append-nil (map commit_by course.moves)
commits-steps setting course (step ∷ steps) =
    let more = commits-steps setting (after_step setting course step) steps in
    grind (arith, filter_map-append, append_assoc, one step)
  where
    one : (step : Step) → map commit_by course.moves ++ filter_map write_commit (step_writes setting course step)
        ≡ map commit_by (after_step setting course step).moves
    one (move_to node) =
        let move : Move = next_move setting course node in
        ap (λ ws. map commit_by course.moves ++ filter_map write_commit ws) (whole-writes setting course move)
        ∙ (leaves setting course move (whole_phase setting course move)).commits
    one step = append-nil (map commit_by course.moves)

pub off-steps : (setting : Setting) (course : Course) (steps : List Step) → IsSound setting course
    → MaySteps setting course steps
    → fold (λ o write. write_off write) course.is_off (writes setting course steps)
    ≡ (after_steps setting course steps).is_off
off-steps setting = fold-steps (λ o write. write_off write) setting (λ (c : Course). c.is_off) one
  where
    one : (course : Course) (step : Step) → IsSound setting course → MayStep setting course step
        → fold (λ o write. write_off write) course.is_off (step_writes setting course step)
        ≡ (after_step setting course step).is_off
    one course (move_to node) sound may =
        let move : Move = next_move setting course node in
        ap (fold (λ o write. write_off write) course.is_off) (whole-writes setting course move)
        ∙ ((leaves setting course move (whole_phase setting course move)).on course.is_off ∙ sym may.is_on)
    one course step sound may = refl
