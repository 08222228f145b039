-- What it tells where a visit puts an address, an erasure or a purge.
use Rattle.std.proofs.Common.{◌≡◌, ◌≢◌, ℕ, zero, suc, ◌+◌, ◌-◌, ◌<◌, ◌≤◌, ◌^◌, true, false, List, [], ◌∷◌, ◌++◌, Some, None, length, take, fold, refl, sym, ap, ◌∙◌, subst, arith, length-append}
use Rattle.std.specs.Prelude.{cond, filter_map, nat_le, slice_get}
use Rattle.std.proofs.lemmas.Bool.{eq-eqb, eqb-true}
use Rattle.std.proofs.lemmas.Bool.Decides.{nat_tests}
use Rattle.std.proofs.lemmas.List.Elements.{filter_map-append}
use Rattle.std.proofs.lemmas.List.Sums.{fold-append}
use Rattle.entry_word.specs.declared.address.Address.{Address}
use Rattle.entry_word.specs.declared.mark.PresenceMark.TheVariants.{Empty, Here, Gone, Coming}
use Rattle.directory.specs.Amid.{course_of}
use Rattle.directory.specs.Courses.{after_step, after_steps, base, Course, course_at, Move, move_to, next_move, Step, switch_off, switch_on}
use Rattle.directory.specs.Histories.{before, History, puts_to}
use Rattle.directory.specs.Legal.{IsLegal, IsScript}
use Rattle.directory.specs.ListLaws.{slice_get-left, slice_get-right}
use Rattle.directory.specs.Puts.{steps_in}
use Rattle.directory.specs.Settings.{Setting, start}
use Rattle.directory.specs.States.{entry_after, mark_after, opening_entry, opening_mark, write_commit}
use Rattle.directory.specs.Writes.{entry_at, erasure_writes, mark_at, move_writes, old_home, step_writes, Write}
use Rattle.trail_laws.specs.Trail.{entry_seen}
use Rattle.busy_finds.specs.LawsBelow.{MarkLaws}
use Rattle.busy_finds.specs.Within.{moves_of}
use Rattle.busy_finds.proofs.Current.{counted, entries_after, made_before, script-before}
use Rattle.busy_finds.proofs.Kept.{early, early-commits, late, late-commits, none-listed, none-take}
use Rattle.busy_finds.proofs.Moves.{base-more}
use Rattle.busy_finds.proofs.Older.{done-only, done-place}
use Rattle.busy_finds.proofs.Only.{only-move}
use Rattle.busy_finds.proofs.Parts.{BehindConfirm, ends, entries-done, here-stays, IsPart, is_address, is_coming, is_erasure, is_gone, is_here, is_purge, part-of, up-to-early, up-to-late}
use Rattle.busy_finds.proofs.Tickets.{begun, count, first-moves, its_legal, its_moves, mark_at as seen_at}
use Rattle.busy_finds.proofs.Written.{IsWritten, made_at}

only-one : {A : Type 0} (x y : A) (k : ℕ) → slice_get (x ∷ []) k ≡ Some y → x ≡ y
only-one x y zero h = cc
only-one x y (suc k) h = cc

module _ (laws : MarkLaws) (setting : Setting) (sub : ℕ) (history : History) (few : setting.nodes ≤ 2 ^ 16)
    (legal : IsLegal setting sub history) where
  abbrev begun_by : ℕ → ℕ
  begun_by t = begun laws setting sub history few legal t

  abbrev count_by : ℕ → ℕ
  count_by t = count laws setting sub history few legal t

  abbrev all_moves : List Move
  all_moves = its_moves laws setting sub history few legal

  -- a visit behind the confirm of a move
  pub record IsCleaning (t : ℕ) : Type 0 where
    pub move : Move
    pub is : slice_get all_moves (move.number - 1) ≡ Some move
    pub last : begun_by (suc t) ≡ move.number
    pub done : count_by (suc t) ≡ move.number
    pub here : seen_at laws setting sub history few legal (suc t) move.to ≡ Here move.number

  abbrev pub Above : ℕ → ℕ → Type 0
  Above q t = (level cluster : ℕ) (address : Address) → level ≤ setting.top
      → entry_seen setting sub (before t history) level cluster ≡ Some address → q ≤ address.number

  pub record IsErasing (t level cluster : ℕ) : Type 0 where
    pub cleaning : IsCleaning t
    pub low : level ≤ cleaning.move.renewed
    pub apart : cluster ≢ setting.home level cleaning.move.to
    pub above : cleaning.move.renewed ≡ setting.top → level ≡ setting.top → Above cleaning.move.number (suc t)

  pub record IsPurging (t : ℕ) : Type 0 where
    pub cleaning : IsCleaning t
    pub tops : cleaning.move.renewed ≡ setting.top
    pub above : Above cleaning.move.number (suc t)

  -- ---- a visit of a move
  module _ (t : ℕ) (write : Write) (is : IsWritten laws setting sub history few legal t write) (node : ℕ)
      (moves : is.last.step ≡ move_to node) where
    abbrev earlier : List Step
    earlier = is.last.earlier

    abbrev done_course : Course
    done_course = course_of setting sub earlier

    abbrev its : Move
    its = next_move setting done_course node

    abbrev place : ℕ
    place = is.last.made

    steps_are : steps_in (puts_to sub (before (suc t) history)) ≡ earlier ++ move_to node ∷ []
    steps_are = is.last.all ∙ ap (λ s. earlier ++ s ∷ []) moves

    moves_are : moves_of setting sub (before (suc t) history) ≡ done_course.moves ++ its ∷ []
    moves_are = ap (λ steps. (after_steps setting (course_at (start setting sub)) steps).moves) steps_are
        ∙ ap (λ (c : Course). c.moves)
        (fold-append (after_step setting) (course_at (start setting sub)) earlier (move_to node ∷ []))

    begun_is : begun_by (suc t) ≡ its.number
    begun_is = omega (arith, ap length moves_are, length-append done_course.moves (its ∷ []))

    script : IsScript setting sub earlier
    script = script-before setting sub earlier (move_to node ∷ [])
        (subst (IsScript setting sub) steps_are (its_legal laws setting sub history few legal (suc t)).script)

    there : slice_get (move_writes setting done_course its) place ≡ Some write
    there = ap (λ s. slice_get (step_writes setting done_course s) place) (sym moves) ∙ is.last.there

    up_to : made_at laws setting sub history few legal (suc t)
        ≡ made_before setting sub earlier ++ take (suc place) (move_writes setting done_course its)
    up_to = is.more ∙ (is.last.up_to
        ∙ ap (λ s. made_before setting sub earlier ++ take (suc place) (step_writes setting done_course s)) moves)

    its_listed : slice_get all_moves (its.number - 1) ≡ Some its
    its_listed =
        let more = first-moves laws setting sub history few legal (suc t) in
        ap (λ ms. slice_get ms (its.number - 1)) more.1
        ∙ slice_get-left (moves_of setting sub (before (suc t) history)) more.0 (its.number - 1) its
        (ap (λ ms. slice_get ms (its.number - 1)) moves_are
        ∙ slice_get-right done_course.moves (its ∷ []) (its.number - 1) 0 (omega arith))

    count-by : (ws : List Write) → made_at laws setting sub history few legal (suc t) ≡ made_before setting sub earlier ++ ws
        → count_by (suc t) ≡ length done_course.moves + length (filter_map write_commit ws)
    count-by ws e =
        ap length (laws.facts.writes.told setting sub (before (suc t) history) few
        (its_legal laws setting sub history few legal (suc t)))
        ∙ (ap (λ xs. length (filter_map write_commit xs)) e ∙ counted setting sub earlier ws)

    count-early : place < length (early setting done_course its) → count_by (suc t) < begun_by (suc t)
    count-early low = omega (
      arith,
      begun_is,
      count-by (take (suc place) (early setting done_course its))
          (up_to ∙ ap (λ ws. made_before setting sub earlier ++ ws) (up-to-early setting done_course its place low)),
      ap length (none-listed (take (suc place) (early setting done_course its))
          (none-take (suc place) (early setting done_course its) (early-commits setting done_course its))),
    )

    abbrev behind_commit : ℕ → List Write
    behind_commit j = mark_at its.to (Here its.number) ∷ take (suc j) (ends setting done_course its)

    abbrev so_far : ℕ → List Write
    so_far j = early setting done_course its ++ mark_at its.from (Gone its.number its.to) ∷ behind_commit j

    up-to-so_far : (j : ℕ) → place ≡ length (early setting done_course its) + suc (suc j)
        → made_at laws setting sub history few legal (suc t) ≡ made_before setting sub earlier ++ so_far j
    up-to-so_far j e = up_to ∙ ap (λ ws. made_before setting sub earlier ++ ws) (up-to-late setting done_course its place j e)

    one-commit : (j : ℕ) → length (filter_map write_commit (so_far j)) ≡ 1
    one-commit j = omega (
      arith,
      ap length (filter_map-append write_commit (early setting done_course its)
          (mark_at its.from (Gone its.number its.to) ∷ behind_commit j)),
      length-append (filter_map write_commit (early setting done_course its))
          (filter_map write_commit (mark_at its.from (Gone its.number its.to) ∷ behind_commit j)),
      ap length (none-listed (early setting done_course its) (early-commits setting done_course its)),
      ap length (none-listed (behind_commit j)
          (none-take (suc (suc j)) (late setting done_course its) (late-commits setting done_course its))),
    )

    cleaning-behind : BehindConfirm setting done_course its place → IsCleaning t
    cleaning-behind (j, e) = record {
      move = its;
      is = its_listed;
      last = begun_is;
      done = omega (arith, count-by (so_far j) (up-to-so_far j e), one-commit j);
      here = laws.facts.writes.left setting sub (before (suc t) history) few
          (its_legal laws setting sub history few legal (suc t)) its.to
          ∙ (ap (fold (mark_after its.to) (opening_mark setting sub its.to)) (up-to-so_far j e)
          ∙ (fold-append (mark_after its.to) (opening_mark setting sub its.to) (made_before setting sub earlier) (so_far j)
          ∙ here-stays setting done_course its _ (suc j)));
    }

    above-behind : (j : ℕ) → place ≡ length (early setting done_course its) + suc (suc j)
        → length (erasure_writes setting done_course its) ≤ suc j → its.renewed ≡ setting.top → Above its.number (suc t)
    above-behind j e erased tops level cluster address low held =
        let value : entries_after (entries_after (opening_entry setting sub) (made_before setting sub earlier))
        (move_writes setting done_course its) level cluster ≡ Some address =
        sym (laws.facts.writes.entries setting sub (before (suc t) history) few
        (its_legal laws setting sub history few legal (suc t)) level cluster
        ∙ (ap (fold (entry_after level cluster) (opening_entry setting sub level cluster)) (up-to-so_far j e)
        ∙ (fold-append (entry_after level cluster) (opening_entry setting sub level cluster)
        (made_before setting sub earlier) (so_far j)
        ∙ entries-done setting done_course its level cluster (suc j) _ erased))) ∙ held in
        let only = only-move setting done_course node
        (entries_after (opening_entry setting sub) (made_before setting sub earlier))
        (done-place setting sub earlier script) (done-only setting sub earlier script) level cluster address low value in
        omega (
          arith,
          only.0,
          base-more level done_course.moves its,
          ap (λ b. cond b its.number (base level done_course.moves))
              (let t : nat_le level its.renewed ≡ true = grind (arith, nat_tests, low, tops) in t),
        )

  -- ---- which visit is which
  module _ (t : ℕ) (write : Write) (is : IsWritten laws setting sub history few legal t write) where
    there-at : (step : Step) → is.last.step ≡ step
        → slice_get (step_writes setting (course_of setting sub is.last.earlier) step) is.last.made ≡ Some write
    there-at step e = ap (λ s. slice_get (step_writes setting (course_of setting sub is.last.earlier) s) is.last.made) (sym e)
        ∙ is.last.there

    pub address-early : (level cluster : ℕ) (address : Address) → write ≡ entry_at level cluster (Some address)
        → (address.number ≡ begun_by (suc t)) × (count_by (suc t) < begun_by (suc t))
    address-early level cluster address same = at_step is.last.step refl
      where
        at_part : (node : ℕ) (moves : is.last.step ≡ move_to node)
            → IsPart setting (course_of setting sub is.last.earlier)
            (next_move setting (course_of setting sub is.last.earlier) node) is.last.made write
            → (address.number ≡ begun_by (suc t)) × (count_by (suc t) < begun_by (suc t))
        at_part node moves (is_coming at from e low) = let clash = sym same ∙ e in cc
        at_part node moves (is_address l c other e numbered low) =
            let one : entry_at l c (Some other) ≡ entry_at level cluster (Some address) = sym e ∙ same in
            let its_address : other ≡ address = cc in (
              ap (λ (x : Address). x.number) (sym its_address) ∙ (numbered ∙ sym (begun_is t write is node moves)),
              count-early t write is node moves low,
            )
        at_part node moves (is_gone e) = let clash = sym same ∙ e in cc
        at_part node moves (is_here e) = let clash = sym same ∙ e in cc
        at_part node moves (is_erasure l c e so) = let clash = sym same ∙ e in cc
        at_part node moves (is_purge at e so) = let clash = sym same ∙ e in cc

        at_step : (step : Step) → is.last.step ≡ step
            → (address.number ≡ begun_by (suc t)) × (count_by (suc t) < begun_by (suc t))
        at_step (move_to node) e = at_part node e (part-of setting _ _ is.last.made write (there-at (move_to node) e))
        at_step switch_off e = let clash = only-one _ _ _ (there-at switch_off e) ∙ same in cc
        at_step switch_on e = let clash = only-one _ _ _ (there-at switch_on e) ∙ same in cc

    pub coming-early : (at p from : ℕ) → write ≡ mark_at at (Coming p from) → count_by (suc t) < begun_by (suc t)
    coming-early at p from same = at_step is.last.step refl
      where
        at_part : (node : ℕ) (moves : is.last.step ≡ move_to node)
            → IsPart setting (course_of setting sub is.last.earlier)
            (next_move setting (course_of setting sub is.last.earlier) node) is.last.made write
            → count_by (suc t) < begun_by (suc t)
        at_part node moves (is_coming v u e low) = count-early t write is node moves low
        at_part node moves (is_address l c other e numbered low) = count-early t write is node moves low
        at_part node moves (is_gone e) = let clash = sym same ∙ e in cc
        at_part node moves (is_here e) = let clash = sym same ∙ e in cc
        at_part node moves (is_erasure l c e so) = let clash = sym same ∙ e in cc
        at_part node moves (is_purge v e so) = let clash = sym same ∙ e in cc

        at_step : (step : Step) → is.last.step ≡ step → count_by (suc t) < begun_by (suc t)
        at_step (move_to node) e = at_part node e (part-of setting _ _ is.last.made write (there-at (move_to node) e))
        at_step switch_off e = let clash = only-one _ _ _ (there-at switch_off e) ∙ same in cc
        at_step switch_on e = let clash = only-one _ _ _ (there-at switch_on e) ∙ same in cc

    pub erasing : (level cluster : ℕ) → write ≡ entry_at level cluster None → IsErasing t level cluster
    unfolding cleaning-behind
    erasing level cluster same = at_step is.last.step refl
      where
        at_part : (node : ℕ) (moves : is.last.step ≡ move_to node)
            → IsPart setting (course_of setting sub is.last.earlier)
            (next_move setting (course_of setting sub is.last.earlier) node) is.last.made write
            → IsErasing t level cluster
        at_part node moves (is_coming v u e low) = let clash = sym same ∙ e in cc
        at_part node moves (is_address l c other e numbered low) = let clash = sym same ∙ e in cc
        at_part node moves (is_gone e) = let clash = sym same ∙ e in cc
        at_part node moves (is_here e) = let clash = sym same ∙ e in cc
        at_part node moves (is_purge v e so) = let clash = sym same ∙ e in cc
        at_part node moves (is_erasure l c e so) =
            let one : entry_at l c None ≡ entry_at level cluster None = sym e ∙ same in
            let its_level : l ≡ level = cc in
            let its_cluster : c ≡ cluster = cc in record {
              cleaning = cleaning-behind t write is node moves so.behind;
              low = subst (λ n. n ≤ (next_move setting (course_of setting sub is.last.earlier) node).renewed) its_level so.low;
              apart = λ h.
                  let clash : false ≡ true = sym so.old
                  ∙ eq-eqb (old_home setting (course_of setting sub is.last.earlier) l)
                  (setting.home l node)
                  (sym so.at ∙ (its_cluster ∙ (h ∙ ap (λ n. setting.home n node) (sym its_level)))) in cc;
              above = λ tops highest. above-behind t write is node moves so.behind.0 so.behind.1
                  (so.last (its_level ∙ (highest ∙ sym tops))) tops;
            }

        at_step : (step : Step) → is.last.step ≡ step → IsErasing t level cluster
        at_step (move_to node) e = at_part node e (part-of setting _ _ is.last.made write (there-at (move_to node) e))
        at_step switch_off e = let clash = only-one _ _ _ (there-at switch_off e) ∙ same in cc
        at_step switch_on e = let clash = only-one _ _ _ (there-at switch_on e) ∙ same in cc

    pub purging : (at : ℕ) → write ≡ mark_at at Empty → IsPurging t
    unfolding cleaning-behind
    purging at same = at_step is.last.step refl
      where
        at_part : (node : ℕ) (moves : is.last.step ≡ move_to node)
            → IsPart setting (course_of setting sub is.last.earlier)
            (next_move setting (course_of setting sub is.last.earlier) node) is.last.made write
            → IsPurging t
        at_part node moves (is_coming v u e low) = let clash = sym same ∙ e in cc
        at_part node moves (is_address l c other e numbered low) = let clash = sym same ∙ e in cc
        at_part node moves (is_gone e) = let clash = sym same ∙ e in cc
        at_part node moves (is_here e) = let clash = sym same ∙ e in cc
        at_part node moves (is_erasure l c e so) = let clash = sym same ∙ e in cc
        at_part node moves (is_purge v e so) =
            let tops : renewed node ≡ setting.top = eqb-true (renewed node) setting.top so.tops in record {
              cleaning = cleaning-behind t write is node moves (_, so.behind.1);
              tops = tops;
              above = above-behind t write is node moves _ so.behind.1 (omega arith) tops;
            }
          where
            renewed : ℕ → ℕ
            renewed node = (next_move setting (course_of setting sub is.last.earlier) node).renewed

        at_step : (step : Step) → is.last.step ≡ step → IsPurging t
        at_step (move_to node) e = at_part node e (part-of setting _ _ is.last.made write (there-at (move_to node) e))
        at_step switch_off e = let clash = only-one _ _ _ (there-at switch_off e) ∙ same in cc
        at_step switch_on e = let clash = only-one _ _ _ (there-at switch_on e) ∙ same in cc
