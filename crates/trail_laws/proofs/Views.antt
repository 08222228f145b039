-- What a legal history leaves, in closed form: its subscriber rests, or is in a phase of a move.
use Rattle.std.proofs.Math.Seq.{take-nil}
use Rattle.std.proofs.Common.{◌≡◌, ◌⊎◌, inl, inr, ℕ, zero, suc, ◌<◌, ◌≤◌, ◌^◌, false, ◌==◌, List, [], ◌∷◌, ◌++◌, length, map, take, fold, refl, sym, ap, ◌∙◌, subst, arith}
use Rattle.std.specs.Prelude.{filter_map}
use Rattle.std.proofs.lemmas.Bool.{cases_Bool, cond_both, eq-eqb, lt-ltb, or_parts}
use Rattle.std.proofs.Math.Bool.{and-false}
use Rattle.node_set.specs.Ascending.{has}
use Rattle.node_set.specs.SetLaws.{has-passing}
use Rattle.std.proofs.lemmas.List.{append-nil, length-drop, length-map, length-take, take-map, take_all}
use Rattle.std.proofs.lemmas.List.Sums.{fold-append}
use Rattle.std.proofs.lemmas.List.Elements.{filter_map-append}
use Rattle.entry_word.specs.declared.mark.PresenceMark.TheVariants.{Here, Gone, Coming}
use Rattle.directory.specs.Settings.{Setting, start, subs}
use Rattle.directory.specs.Legal.{IsLegal, IsScript}
use Rattle.directory.specs.Histories.{History, puts_to}
use Rattle.directory.specs.Puts.{course_in, steps_in}
use Rattle.trail_laws.specs.Phases.{IsAtRest}
use Rattle.directory.specs.Statements.{CommitsAreTold, EntriesAreLeft, LegalIsAmid, MarksAreLeft, OffIsTold}
use Rattle.directory.specs.Courses.{last_stop, Step, move_to, Move, Course, course_at, next_move, after_step, after_steps, MayMove, MayStep, MaySteps}
use Rattle.directory.specs.Writes.{Write, mark_at, new_address, move_writes, visit_of, visits, writes}
use Rattle.directory.specs.Standing.{commits, off}
use Rattle.directory.specs.States.{entry_left, mark_left, opening_entry, opening_mark, write_commit, write_off, writes_made}
use Rattle.trail_laws.specs.Trail.{entry_seen, mark_seen}
use Rattle.trail_laws.proofs.Links.{IsSound, sound-steps, stop-inside}
use Rattle.trail_laws.proofs.Fronts.{fronts}
use Rattle.trail_laws.proofs.ClosedMarks.{there, is-next, rest_mark, marked, trail_mark}
use Rattle.trail_laws.proofs.ClosedEntries.{rest_entry, entered}
use Rattle.trail_laws.proofs.ClosedViews.{clearing, coming, IsCleared, IsPhase, old_levels, passage, Phase, purge_nodes, purged_nodes, renewed_levels, Shown, View}
use Rattle.trail_laws.proofs.ClosedWrites.{commits-steps, entries-steps, erasures, leaves, Leaves, marks-steps, off-steps, phase_writes, purges, whole-writes}
use Rattle.directory.specs.StepLaws.{writes-more, start-kept}

module _ (setting : Setting) (sub : ℕ) where
  -- the course after these steps, and what they write
  abbrev pub course_of : List Step → Course
  course_of steps = after_steps setting (course_at (start setting sub)) steps

  abbrev pub writes_of : List Step → List Write
  writes_of steps = writes setting (course_at (start setting sub)) steps

  pub sound-opening : (steps : List Step) → IsScript setting sub steps
      → IsSound setting (course_at (start setting sub))
  sound-opening steps script = record { begins = script.begins; linked = tt }

  pub sound-script : (steps : List Step) → IsScript setting sub steps → IsSound setting (course_of steps)
  sound-script steps script = grind (arith, sound-steps, sound-opening)

  opens-marks : (v : ℕ) → sub < subs setting
      → opening_mark setting sub v ≡ rest_mark setting (course_at (start setting sub)) v
  unfolding trail_mark
  opens-marks v known = rw (lt-ltb sub (subs setting) known) refl

  opens-entries : (level cluster : ℕ) → sub < subs setting → level ≤ setting.top
      → opening_entry setting sub level cluster ≡ rest_entry setting (course_at (start setting sub)) level cluster
  opens-entries level cluster known low =
      rw (lt-ltb sub (subs setting) known, lt-ltb level (suc setting.top) (omega arith)) refl

  -- the marks and the entries of a subscriber whose steps are done
  pub rest-marks_of : (steps : List Step) (v : ℕ) → IsScript setting sub steps → v < setting.nodes
      → mark_left setting sub (writes_of steps) v ≡ rest_mark setting (course_of steps) v
  rest-marks_of steps v script low =
      ap (λ m. marked v m (writes_of steps)) (opens-marks v script.known)
      ∙ marks-steps steps v low (sound-opening steps script) script.allowed

  pub rest-entries_of : (steps : List Step) (level cluster : ℕ) → IsScript setting sub steps → level ≤ setting.top
      → entry_left setting sub (writes_of steps) level cluster ≡ rest_entry setting (course_of steps) level cluster
  rest-entries_of steps level cluster script low =
      ap (λ e. entered level cluster e (writes_of steps)) (opens-entries level cluster script.known low)
      ∙ entries-steps steps level cluster (sound-opening steps script) script.allowed

  -- the view of a subscriber whose steps are done, and of one that is amid a step
  abbrev pub written : List Write → List Move → Shown
  written ws moves = record {
    from = start setting sub;
    marks = mark_left setting sub ws;
    entries = entry_left setting sub ws;
    commits = filter_map write_commit ws;
    off = fold (λ o write. write_off write) false ws;
    moves = moves;
  }

  pub WritesView : List Write → List Move → Type 0
  WritesView ws moves = View setting (written ws moves)

  rests : (steps : List Step) → IsScript setting sub steps → WritesView (writes_of steps) (course_of steps).moves
  unfolding WritesView
  rests steps script = inl (record {
    course = course_of steps;
    sound = sound-script steps script;
    begins = start-kept setting (course_at (start setting sub)) steps;
    marks_are = λ v low. rest-marks_of steps v script low;
    entries_are = λ level cluster low. rest-entries_of steps level cluster script low;
    commits_are = commits-steps setting (course_at (start setting sub)) steps;
    off_is = off-steps setting (course_at (start setting sub)) steps (sound-opening steps script) script.allowed;
    moves_are = refl;
  })

-- a subscriber that rests has made all writes of its steps, and its mark stands where its course ends
module _ (setting : Setting) (sub : ℕ) (history : History) (rest : IsAtRest setting sub history) where
  pub all-made : writes_made setting sub (puts_to sub history) ≡ writes_of setting sub (steps_in (puts_to sub history))
  all-made = take_all (length (puts_to sub history)) (writes_of setting sub (steps_in (puts_to sub history))) (omega (
    arith,
    length-drop (length (puts_to sub history)) (visits setting sub (steps_in (puts_to sub history))),
    ap length rest,
    length-map (writes_of setting sub (steps_in (puts_to sub history))) (visit_of sub),
  ))

  pub mark-there : MarksAreLeft → setting.nodes ≤ 2 ^ 16 → IsLegal setting sub history
      → mark_seen setting sub history (last_stop (course_in setting sub (puts_to sub history)))
      ≡ there (course_in setting sub (puts_to sub history))
  mark-there marks low legal =
      rw (marks setting sub history low legal (last_stop (course_in setting sub (puts_to sub history))), all-made)
      (rest-marks_of setting sub (steps_in (puts_to sub history)) _ legal.script
      (stop-inside (sound-script setting sub (steps_in (puts_to sub history)) legal.script)) ∙ rw (eq-eqb _ _ refl))

-- the steps before one may be made, and then that one
pub may-before : (setting : Setting) (course : Course) (before : List Step) (step : Step)
    → MaySteps setting course (before ++ step ∷ []) → MaySteps setting course before
    × MayStep setting (after_steps setting course before) step
unfolding MaySteps
may-before setting course [] step may = (tt, may.0)
may-before setting course (first ∷ before) step may =
    grind (arith, may-before setting (after_step setting course first) before step may.1)

-- ---- amid a move
-- what isn't in a list isn't in a front of it
not-taken : (x p : ℕ) (xs : List ℕ) → has x xs ≡ false → has x (take p xs) ≡ false
not-taken x zero xs h = refl
not-taken x (suc p) [] h = refl
not-taken x (suc p) (y ∷ ys) h =
    let parts = or_parts (x == y) (has x ys) h in rw parts.0 (not-taken x p ys parts.1)

-- the new node is never purged
new-stays : (setting : Setting) (course : Course) (move : Move) → move.to < setting.nodes
    → has move.to (purged_nodes setting course move) ≡ false
new-stays setting course move inside = grind (arith, purge_nodes, has-passing, eq-eqb, and-false, cond_both)

module _ {setting : Setting} {sub : ℕ} {before : List Step} {node : ℕ} (script : IsScript setting sub before)
    (may : MayMove setting (course_of setting sub before) node) where
  abbrev pub its_course : Course
  its_course = course_of setting sub before

  abbrev pub its_move : Move
  its_move = next_move setting its_course node

  abbrev pub Goal : List Write → Type 0
  Goal front = WritesView setting sub (writes_of setting sub before ++ front)
      (course_of setting sub (before ++ move_to node ∷ [])).moves

  in-phase : (phase : Phase) → IsPhase setting its_course its_move phase
      → Goal (phase_writes setting its_course its_move phase)
  unfolding WritesView
  in-phase phase is_phase = inr (
    phase,
    record {
      course = its_course;
      move = its_move;
      sound = sound-script setting sub before script;
      next = is-next may;
      is_phase = is_phase;
      begins = start-kept setting (course_at (start setting sub)) before;
      marks_are = λ v low. grind (arith, fold-append, rest-marks_of setting sub before v script low, left.marks v);
      entries_are = λ level cluster low. grind (
        arith,
        fold-append,
        rest-entries_of setting sub before level cluster script low,
        left.entries level cluster,
      );
      commits_are =
          grind (arith, filter_map-append, commits-steps setting (course_at (start setting sub)) before, left.commits);
      off_is = fold-append (λ o write. write_off write) false made front ∙ left.on _;
      moves_are = grind (arith, fold-append);
    },
  )
    where
      made : List Write
      made = writes_of setting sub before

      front : List Write
      front = phase_writes setting its_course its_move phase

      left : Leaves setting its_course its_move phase
      left = leaves setting its_course its_move phase

  abbrev pub its_old : List ℕ
  its_old = old_levels setting its_course its_move

  abbrev pub its_purged : List ℕ
  its_purged = purged_nodes setting its_course its_move

  cleared : (e p : ℕ) → (p ≡ 0) ⊎ (take e (erasures setting its_course its_old) ≡ erasures setting its_course its_old)
      → IsCleared setting its_course its_move (take e its_old) (take p its_purged)
  cleared e p in_order = record {
    stays = not-taken node p its_purged (new-stays setting its_course its_move may.inside);
    kept = λ level. not-taken level e its_old;
    in_order = grind (arith, cases_Bool (its_move.renewed == setting.top), take-nil, take_all, length-take, length-map);
  }

  amid-move : (made : ℕ) → 1 ≤ made → Goal (take made (move_writes setting its_course its_move))
  unfolding phase_writes
  amid-move zero some = absurd (omega arith)
  amid-move (suc made) some = subst Goal (sym (ap (take (suc made)) (whole-writes setting its_course its_move)))
      (fronts (mark_at its_move.to (Coming its_move.number its_move.from))
      (mark_at its_move.from (Gone its_move.number its_move.to)) (mark_at its_move.to (Here its_move.number))
      (map (new_address setting its_move) (renewed_levels its_move)) (erasures setting its_course its_old)
      (purges its_purged) Goal
      (λ j. rw (take-map (new_address setting its_move) j (renewed_levels its_move))
      (in-phase (coming (take j (renewed_levels its_move))) tt)) (in-phase passage tt)
      (λ e p in_order. rw (take-map _ e its_old, take-map _ p its_purged)
      (in-phase (clearing (take e its_old) (take p its_purged)) (cleared e p in_order))) made)

-- so it is amid each step
amid-view : {setting : Setting} {sub : ℕ} (before under : List Step) (made : ℕ)
    → IsScript setting sub (before ++ under) → length under ≤ 1 → length under ≤ made
    → made ≤ length (writes setting (course_of setting sub before) under)
    → WritesView setting sub (writes_of setting sub before ++ take made
    (writes setting (course_of setting sub before) under)) (course_of setting sub (before ++ under)).moves
unfolding writes
amid-view {setting} {sub} before [] made script one some few = grind (arith, append-nil, writes_of, take-nil, rests)
amid-view {setting} {sub} before (move_to node ∷ []) made script one some few =
    let may = may-before setting (course_at (start setting sub)) before (move_to node) script.allowed in
    grind (arith, append-nil, amid-move)
amid-view {setting} {sub} before (step ∷ []) made script one some few =
    grind (arith, writes-more, rests setting sub (before ++ step ∷ []) script)
amid-view before (step ∷ other ∷ more) made script one some few = absurd (omega (arith, one))

-- what is shown after a history
abbrev pub shown : Setting → ℕ → History → Shown
shown setting sub history = record {
  from = start setting sub;
  marks = mark_seen setting sub history;
  entries = entry_seen setting sub history;
  commits = commits sub history;
  off = off sub history;
  moves = (course_in setting sub (puts_to sub history)).moves;
}

-- what holds of the puts of a legal history
pub legal-view : LegalIsAmid → MarksAreLeft → EntriesAreLeft → CommitsAreTold → OffIsTold
    → {setting : Setting} {sub : ℕ} (history : History) → setting.nodes ≤ 2 ^ 16 → IsLegal setting sub history
    → View setting (shown setting sub history)
unfolding WritesView
legal-view amid marks_left entries_left told off_told {setting} {sub} history low legal = grind (arith, amid-view)
