-- What the lines of a subscriber's steps tell of it before a ticket is what its writes before that
-- ticket tell.
use Rattle.std.proofs.Common.{◌≡◌, inl, inr, ℕ, suc, ◌+◌, ◌-◌, ◌<◌, ◌≤◌, ◌&&◌, Bool, true, false, eqb, ltb, List, [], ◌∷◌, ◌++◌, length, take, drop, fold, Option, Some, None, refl, ap, sym, ◌∙◌, arith, subst, append_assoc, append-nil, length-append}
use Rattle.std.specs.Prelude.{slice_get, slice_index}
use Rattle.std.specs.List.{cons_option, last_or}
use Rattle.std.proofs.lemmas.Bool.{cases_lt}
use Rattle.std.proofs.lemmas.Bool.Decides.{nat_tests}
use Rattle.std.proofs.lemmas.List.{drop-drop, take_all}
use Rattle.std.proofs.lemmas.List.Sums.{fold-append}
use Rattle.std.proofs.lemmas.List.Elements.{filter_map-append}
use Rattle.entry_word.specs.declared.mark.PresenceMark.TheVariants.{Here, Off as OffMark}
use Rattle.directory.specs.Settings.{Setting}
use Rattle.directory.specs.Courses.{Course, MayStep, MaySteps, Move, Step, after_step, last_stop, move_to, next_move, switch_off, switch_on}
use Rattle.directory.specs.Outcomes.{step_line, step_lines}
use Rattle.directory.specs.Standing.{Commit, commit_by}
use Rattle.directory.specs.States.{write_commit, write_off}
use Rattle.directory.specs.StepLaws.{take-append}
use Rattle.directory.specs.Writes.{Write, commit_place, mark_at, move_writes, step_writes, writes}
use Rattle.directory.specs.declared.answers.Done.{Done}
use Rattle.directory.specs.declared.answers.Done.TheVariants.{Moved, Switched}
use Rattle.report_check.specs.Parts.{tell, told_before}
use Rattle.own_reports.proofs.Plain.{commits_in, move-commits, move-confirm, move-on, move-waits, off_by}
use Rattle.own_reports.proofs.StepRuns.{move-long, part-at, part-first}
use Rattle.own_reports.proofs.RowsTold.{told-push}
use Rattle.directory.specs.ListLaws.{slice_get-right, slice_get-left, last_or-push}

test-now : (sub commit ticket : ℕ) → commit < ticket → (eqb sub sub && ltb commit ticket) ≡ true
test-now sub commit ticket low = grind (arith, nat_tests)

test-later : (sub commit ticket : ℕ) → ticket ≤ commit → (eqb sub sub && ltb commit ticket) ≡ false
test-later sub commit ticket low = grind (arith, nat_tests)

-- the last commit, its ticket and its weight: the write behind it confirms it
abbrev pub IsLast : Setting → List ℕ → List Write → Option Commit → Option ℕ → ℕ → Type 0
IsLast setting seen all None None weight = Unit {0}
IsLast setting seen all (Some commit) (Some ticket) weight =
    (j : ℕ) × (suc j < length seen) × (ticket ≡ slice_index seen j)
    × (slice_get all (suc j) ≡ Some (mark_at commit.to (Here commit.number)))
    × (weight ≡ setting.distance commit.from commit.to)
IsLast setting seen all _ _ weight = ⊥

-- what lines tell before a ticket is what these writes tell
pub record IsToldBy (setting : Setting) (homes : List ℕ) (sub ticket : ℕ) (seen : List ℕ) (all : List Write)
    (lines : List Done) (made : List Write) : Type 0 where
  pub node : (told_before homes lines sub ticket).node
      ≡ fold (λ node commit. commit.to) (slice_index homes sub) (commits_in made)
  pub number : (told_before homes lines sub ticket).number ≡ length (commits_in made)
  pub is_off : (told_before homes lines sub ticket).is_off ≡ off_by false made
  pub last : IsLast setting seen all (last_or None (commits_in made)) (told_before homes lines sub ticket).commit
      (told_before homes lines sub ticket).weight

module _ (setting : Setting) (homes : List ℕ) (sub ticket : ℕ) (seen : List ℕ) (all : List Write) where
  -- a move that was committed before the ticket
  pub told-moved : (lines : List Done) (made more : List Write) (move : Move) (first commit last : ℕ)
      → IsToldBy setting homes sub ticket seen all lines made → commit < ticket
      → commits_in more ≡ commit_by move ∷ [] → off_by (off_by false made) more ≡ off_by false made
      → IsLast setting seen all (Some (commit_by move)) (Some commit) move.weight
      → IsToldBy setting homes sub ticket seen all
      (lines ++ Moved sub move.number move.from move.to move.weight first commit last ∷ []) (made ++ more)
  told-moved lines made more move first commit last told low one still is =
      let line : Done = Moved sub move.number move.from move.to move.weight first commit last in
      let grown : commits_in (made ++ more) ≡ commits_in made ++ commit_by move ∷ [] =
      filter_map-append write_commit made more ∙ ap (λ cs. commits_in made ++ cs) one in
      let joined = told-push homes sub ticket lines line in record {
        node = rw (joined, test-now sub commit ticket low)
            (sym (ap (fold (λ node (c : Commit). c.to) (slice_index homes sub)) grown
            ∙ fold-append (λ node (c : Commit). c.to) (slice_index homes sub) (commits_in made) (commit_by move ∷ [])));
        number = rw (joined, test-now sub commit ticket low)
            (ap suc told.number ∙ sym (ap length grown ∙ length-append (commits_in made) (commit_by move ∷ [])
            ∙ omega arith));
        is_off = rw (joined, test-now sub commit ticket low)
            (told.is_off ∙ sym (fold-append (λ (last : Bool) write. write_off write) false made more ∙ still));
        last = rw (joined, test-now sub commit ticket low)
            (subst (λ o. IsLast setting seen all o (Some commit) move.weight)
            (sym (ap (last_or None) grown ∙ last_or-push None (commits_in made) (commit_by move))) is);
      }

  -- a line that tells of no move before the ticket, and writes that are no commit
  told-still : (lines : List Done) (made more : List Write) (line : Done) (off : Bool)
      → IsToldBy setting homes sub ticket seen all lines made → commits_in more ≡ []
      → tell sub ticket (told_before homes lines sub ticket) line
      ≡ record (told_before homes lines sub ticket) { is_off = off } → off_by (off_by false made) more ≡ off
      → IsToldBy setting homes sub ticket seen all (lines ++ line ∷ []) (made ++ more)
  told-still lines made more line off told none tells turned =
      let same : commits_in (made ++ more) ≡ commits_in made =
      filter_map-append write_commit made more ∙ ap (λ cs. commits_in made ++ cs) none ∙ append-nil (commits_in made) in
      let joined = told-push homes sub ticket lines line ∙ tells in record {
        node = rw joined (told.node ∙ sym (ap (fold (λ node (c : Commit). c.to) (slice_index homes sub)) same));
        number = rw joined (told.number ∙ sym (ap length same));
        is_off = rw joined (sym (fold-append (λ (last : Bool) write. write_off write) false made more ∙ turned));
        last = rw joined
            (subst (λ o. IsLast setting seen all o (told_before homes lines sub ticket).commit
            (told_before homes lines sub ticket).weight) (sym (ap (last_or None) same)) told.last);
      }

  -- how many of all writes are made before the ticket
  pub record IsCount (made : ℕ) : Type 0 where
    pub below : (i : ℕ) → i < length seen → slice_index seen i < ticket → i < made
    pub past : (i : ℕ) → i < length seen → ticket ≤ slice_index seen i → made ≤ i

  -- how far the steps are that were told
  record IsAmidSteps (course : Course) (step : Step) (p : ℕ) (done later : List Write) : Type 0 where
    may : MayStep setting course step
    place : length done ≡ p
    fits : p + length (step_writes setting course step) ≤ length seen
    all_is : all ≡ done ++ (step_writes setting course step ++ later)
    is_off : off_by false done ≡ course.is_off

  nothing-off : (k : ℕ) (b : Bool) (ws : List Write) → k ≡ 0 → off_by b (take k ws) ≡ b
  nothing-off k b ws none = ap (λ j. off_by b (take j ws)) none

  off-now : (m p : ℕ) (done : List Write) → length done ≡ p → p ≤ m → off_by false (take m done) ≡ off_by false done
  off-now m p done place few = ap (off_by false) (take_all m done (omega (arith, place, few)))

  move-told : (course : Course) (node p m : ℕ) (done later : List Write) (lines : List Done) → IsCount m
      → IsAmidSteps course (move_to node) p done later
      → IsToldBy setting homes sub ticket seen all lines (take m done)
      → IsToldBy setting homes sub ticket seen all
      (lines ++ step_line setting sub course (move_to node)
      (take (length (step_writes setting course (move_to node))) (drop p seen)) ∷ [])
      (take m done ++ take (m - p) (step_writes setting course (move_to node)))
  move-told course node p m done later lines count amid told =
      let move : Move = next_move setting course node in
      let ws : List Write = move_writes setting course move in
      let n : ℕ = length ws in
      let chunk : List ℕ = take n (drop p seen) in
      let long : suc (commit_place move) < n = move-long setting course move in
      let i : ℕ = p + commit_place move in
      let here : slice_index chunk (commit_place move) ≡ slice_index seen i =
      part-at seen p n (commit_place move) (omega (arith, long)) in
      let inside : suc i < length seen = omega (arith, long, amid.fits) in
      let still : off_by (off_by false (take m done)) (take (m - p) ws) ≡ off_by false (take m done) =
      elim (cases_lt p m) [
        | inl more ↦
            let on : off_by false (take m done) ≡ false =
            off-now m p done amid.place (omega (arith, more)) ∙ amid.is_off ∙ amid.may.is_on in
            ap (λ b. off_by b (take (m - p) ws)) on ∙ move-on (m - p) setting course move ∙ sym on
        | inr none ↦ nothing-off (m - p) (off_by false (take m done)) ws (omega (arith, none))
      ] in
      elim (cases_lt (slice_index seen i) ticket) [
        | inl low ↦
            let more : i < m = count.below i (omega (arith, inside)) low in
            let confirm : slice_get all (suc i) ≡ Some (mark_at move.to (Here move.number)) =
            ap (λ (xs : List Write). slice_get xs (suc i)) amid.all_is
            ∙ slice_get-right done (ws ++ later) (suc i) (suc (commit_place move)) (omega (arith, amid.place))
            ∙ slice_get-left ws later (suc (commit_place move)) (mark_at move.to (Here move.number))
            (move-confirm setting course move) in
            told-moved lines (take m done) (take (m - p) ws) move (slice_index chunk 0)
            (slice_index chunk (commit_place move)) (slice_index chunk (length chunk - 1)) told
            (omega (arith, here, low)) (move-commits (m - p) setting course move (omega (arith, more))) still
            (i, inside, here, confirm, refl)
        | inr far ↦
            told-still lines (take m done) (take (m - p) ws) (Moved sub move.number move.from move.to move.weight
            (slice_index chunk 0) (slice_index chunk (commit_place move)) (slice_index chunk (length chunk - 1)))
            _ told (move-waits (m - p) setting course move (omega (arith, count.past i (omega (arith, inside)) far)))
            (rw (test-later sub (slice_index chunk (commit_place move)) ticket (omega (arith, here, far))) refl)
            (still ∙ sym told.is_off)
      ]

  switch-told : (course : Course) (step : Step) (write : Write) (off : Bool) (node number p m : ℕ) (done : List Write)
      (lines : List Done) → IsCount m → p + 1 ≤ length seen → write_commit write ≡ None → write_off write ≡ off
      → IsToldBy setting homes sub ticket seen all lines (take m done)
      → IsToldBy setting homes sub ticket seen all
      (lines ++ Switched sub off node number (slice_index (take 1 (drop p seen)) 0) ∷ [])
      (take m done ++ take (m - p) (write ∷ []))
  switch-told course step write off node number p m done lines count fits none turns told =
      let at : ℕ = slice_index (take 1 (drop p seen)) 0 in
      let here = part-first seen p 1 (omega arith) in
      elim (cases_lt (slice_index seen p) ticket) [
        | inl low ↦
            let whole : take (m - p) (write ∷ []) ≡ write ∷ [] =
            take_all (m - p) (write ∷ []) (omega (arith, count.below p (omega (arith, fits)) low)) in
            told-still lines (take m done) (take (m - p) (write ∷ [])) (Switched sub off node number at) off told
            (ap commits_in whole ∙ ap (λ o. cons_option o []) none)
            (rw (test-now sub at ticket (omega (arith, here, low))) refl)
            (ap (off_by (off_by false (take m done))) whole ∙ turns)
        | inr far ↦
            let empty : take (m - p) (write ∷ []) ≡ [] =
            ap (λ k. take k (write ∷ [])) (let e : m - p ≡ 0 = omega (arith, count.past p (omega (arith, fits)) far) in
            e) in
            told-still lines (take m done) (take (m - p) (write ∷ [])) (Switched sub off node number at) _ told
            (ap commits_in empty) (rw (test-later sub at ticket (omega (arith, here, far))) refl)
            (ap (off_by (off_by false (take m done))) empty ∙ sym told.is_off)
      ]

  step-told : (course : Course) (step : Step) (p m : ℕ) (done later : List Write) (lines : List Done) → IsCount m
      → IsAmidSteps course step p done later
      → IsToldBy setting homes sub ticket seen all lines (take m done)
      → IsToldBy setting homes sub ticket seen all
      (lines ++ step_line setting sub course step (take (length (step_writes setting course step)) (drop p seen)) ∷ [])
      (take m done ++ take (m - p) (step_writes setting course step))
  step-told course (move_to node) p m done later lines count amid told =
      move-told course node p m done later lines count amid told
  step-told course switch_off p m done later lines count amid told =
      switch-told course switch_off (mark_at (last_stop course) (OffMark (length course.moves))) true (last_stop course)
      (length course.moves) p m done lines count amid.fits refl refl told
  step-told course switch_on p m done later lines count amid told =
      switch-told course switch_on (mark_at (last_stop course) (Here (length course.moves))) false (last_stop course)
      (length course.moves) p m done lines count amid.fits refl refl told

  -- whether a subscriber is off after a step
  pub off-after : (course : Course) (step : Step) (done : List Write) → MayStep setting course step
      → off_by false done ≡ course.is_off
      → off_by false (done ++ step_writes setting course step) ≡ (after_step setting course step).is_off
  off-after course (move_to node) done may now =
      let ws : List Write = move_writes setting course (next_move setting course node) in
      fold-append (λ (last : Bool) write. write_off write) false done ws
      ∙ ap (λ b. off_by b ws) (now ∙ may.is_on)
      ∙ ap (off_by false) (sym (take_all (length ws) ws (omega arith)))
      ∙ move-on (length ws) setting course (next_move setting course node)
      ∙ sym may.is_on
  off-after course _ done may now = fold-append (λ (last : Bool) write. write_off write) false done _

  -- the lines of steps tell what their writes tell
  pub steps-told : (course : Course) (steps : List Step) (p m : ℕ) (done : List Write) (lines : List Done) → IsCount m
      → MaySteps setting course steps → length done ≡ p → p + length (writes setting course steps) ≡ length seen
      → all ≡ done ++ writes setting course steps → off_by false done ≡ course.is_off
      → IsToldBy setting homes sub ticket seen all lines (take m done)
      → IsToldBy setting homes sub ticket seen all (lines ++ step_lines setting sub course steps (drop p seen))
      (take m all)
  unfolding writes step_lines MaySteps
  steps-told course [] p m done lines count may place ends all_is off told =
      subst (λ (ls : List Done). IsToldBy setting homes sub ticket seen all ls (take m all)) (sym (append-nil lines))
      (subst (λ (ws : List Write). IsToldBy setting homes sub ticket seen all lines (take m ws))
      (sym (all_is ∙ append-nil done)) told)
  steps-told course (step ∷ steps) p m done lines count may place ends all_is off told =
      let ws : List Write = step_writes setting course step in
      let n : ℕ = length ws in
      let next : Course = after_step setting course step in
      let later : List Write = writes setting next steps in
      let line : Done = step_line setting sub course step (take n (drop p seen)) in
      let split : length (ws ++ later) ≡ n + length later = length-append ws later in
      let amid : IsAmidSteps course step p done later = record {
        may = may.0;
        place = place;
        fits = omega (arith, ends, split);
        all_is = all_is;
        is_off = off;
      } in
      let now : IsToldBy setting homes sub ticket seen all (lines ++ line ∷ []) (take m (done ++ ws)) =
      subst (IsToldBy setting homes sub ticket seen all (lines ++ line ∷ []))
      (sym (take-append m done ws ∙ ap (λ k. take m done ++ take (m - k) ws) place))
      (step-told course step p m done later lines count amid told) in
      let behind : IsToldBy setting homes sub ticket seen all
      ((lines ++ line ∷ []) ++ step_lines setting sub next steps (drop (p + n) seen)) (take m all) =
      steps-told next steps (p + n) m (done ++ ws) (lines ++ line ∷ []) count may.1
      (omega (arith, length-append done ws, place)) (omega (arith, ends, split))
      (all_is ∙ sym (append_assoc done ws later)) (off-after course step done may.0 off) now in
      subst (λ (ls : List Done). IsToldBy setting homes sub ticket seen all ls (take m all))
      (append_assoc lines (line ∷ []) (step_lines setting sub next steps (drop (p + n) seen))
      ∙ ap (λ (rest : List ℕ). lines ++ line ∷ step_lines setting sub next steps rest) (sym (drop-drop n p seen)))
      behind
