-- The tickets of switches are of no move, and all other tickets of a subscriber are.
use Rattle.std.proofs.Common.{◌≡◌, ◌⊎◌, inl, inr, ℕ, zero, suc, ◌+◌, ◌<◌, ◌==◌, ◌&&◌, ◌||◌, Bool, true, false, not, List, [], ◌∷◌, ◌++◌, length, take, drop, map, Option, Some, None, refl, ap, sym, ◌∙◌, arith, subst, append_assoc, length-append}
use Rattle.std.specs.Prelude.{slice_get, slice_index, option_map, unwrap_or}
use Rattle.std.specs.List.{list_any}
use Rattle.std.proofs.lemmas.List.{drop-drop, length-map, take_all, take-append-le}
use Rattle.std.proofs.lemmas.Option.{slice_get-get_or, slice_get-map, same_Some}
use Rattle.entry_word.specs.Marks.{mark_in, mark_word, says_here, says_off}
use Rattle.entry_word.specs.declared.mark.PresenceMark.{PresenceMark}
use Rattle.entry_word.specs.declared.mark.PresenceMark.TheVariants.{Here, Off as OffMark}
use Rattle.entry_word.specs.declared.visit.Visit.{Visit}
use Rattle.directory.specs.Settings.{Setting, start, subs}
use Rattle.directory.specs.Courses.{Course, MayStep, MaySteps, Step, after_step, course_at, last_stop, move_to, switch_off, switch_on}
use Rattle.directory.specs.Histories.{History, before, own, puts_to, tickets}
use Rattle.directory.specs.HistoryLaws.{tickets-count}
use Rattle.directory.specs.Looks.{moves_at, moves_by}
use Rattle.directory.specs.Orders.{Scripts, steps_of}
use Rattle.directory.specs.Outcomes.{step_line, step_lines, sub_lines}
use Rattle.directory.specs.Puts.{ends_off}
use Rattle.directory.specs.States.{AreSmall, IsSmallWrite}
use Rattle.directory.specs.Writes.{Write, mark_at, step_writes, visit_of, writes}
use Rattle.report_check.specs.Parts.{is_switch_at}
use Rattle.own_reports.proofs.Cuts.{IsOver, Laws, all_writes, cut-below, cut-past, legal-before, made-before, made_before, off-before}
use Rattle.own_reports.proofs.Order.{tickets-are}
use Rattle.own_reports.proofs.Plain.{off_by}
use Rattle.own_reports.proofs.StepRuns.{all-made, part-first, some-writes}
use Rattle.own_reports.proofs.Tellings.{off-after}
use Rattle.std.proofs.lemmas.Bool.{eqb-true, or_cases}
use Rattle.directory.specs.ListLaws.{slice_get-right}

-- ---- the lines of switches

-- a write is that of a switch: an Off, or a Here where the subscriber is off
abbrev pub IsSwitchWrite : List Write → ℕ → Type 0
IsSwitchWrite all i =
    (node : ℕ) × (number : ℕ)
    × ((slice_get all i ≡ Some (mark_at node (OffMark number)))
    ⊎ ((slice_get all i ≡ Some (mark_at node (Here number))) × (off_by false (take i all) ≡ true)))

-- a ticket is that of a switch
abbrev pub IsSwitchTicket : List ℕ → List Write → ℕ → Type 0
IsSwitchTicket seen all t = (i : ℕ) × (i < length seen) × (t ≡ slice_index seen i) × IsSwitchWrite all i

module _ (setting : Setting) (sub t : ℕ) (seen : List ℕ) (all : List Write) where
  pub switch-lines : (course : Course) (steps : List Step) (p : ℕ) (done : List Write) → MaySteps setting course steps
      → length done ≡ p → p + length (writes setting course steps) ≡ length seen
      → all ≡ done ++ writes setting course steps → off_by false done ≡ course.is_off
      → list_any (is_switch_at t) (step_lines setting sub course steps (drop p seen)) ≡ true
      → IsSwitchTicket seen all t
  unfolding writes step_lines MaySteps
  switch-lines course [] p done may place ends all_is off found = let bad : false ≡ true = found in cc
  switch-lines course (step ∷ steps) p done may place ends all_is off found =
      let ws : List Write = step_writes setting course step in
      let next : Course = after_step setting course step in
      let later : List Write = writes setting next steps in
      let split : length (ws ++ later) ≡ length ws + length later = length-append ws later in
      elim (or_cases (is_switch_at t (step_line setting sub course step (take (length ws) (drop p seen)))) _ found) [
        | inl here ↦ at_step step may.0 (omega (arith, ends, split, some-writes setting course step)) all_is here
        | inr behind ↦
            switch-lines next steps (p + length ws) (done ++ ws) may.1 (omega (arith, length-append done ws, place))
            (omega (arith, ends, split)) (all_is ∙ sym (append_assoc done ws later))
            (off-after setting [] sub t seen all course step done may.0 off)
            (ap (λ (rest : List ℕ). list_any (is_switch_at t) (step_lines setting sub next steps rest))
            (sym (drop-drop (length ws) p seen)) ∙ behind)
      ]
    where
      now : (w : Write) (ws : List Write) → all ≡ done ++ w ∷ ws → slice_get all p ≡ Some w
      now w ws is = ap (λ (xs : List Write). slice_get xs p) is ∙ slice_get-right done _ p 0 (omega (arith, place))

      at_step : (step : Step) → MayStep setting course step → p < length seen
          → all ≡ done ++ (step_writes setting course step ++ writes setting (after_step setting course step) steps)
          → is_switch_at t (step_line setting sub course step
          (take (length (step_writes setting course step)) (drop p seen))) ≡ true
          → IsSwitchTicket seen all t
      at_step (move_to node) may low is found = let bad : false ≡ true = found in cc
      at_step switch_off may low is found =
          let at = sym (eqb-true _ t found) ∙ part-first seen p 1 (omega arith) in
          (p, low, at, (last_stop course, length course.moves, inl (now _ _ is)))
      at_step switch_on may low is found =
          let at = sym (eqb-true _ t found) ∙ part-first seen p 1 (omega arith) in
          let off_there : off_by false (take p all) ≡ true = ap (λ (xs : List Write). off_by false (take p xs)) is
          ∙ ap (off_by false) (take-append-le p done _ (omega (arith, place)) ∙ take_all p done (omega (arith, place)))
          ∙ off ∙ may in
          (p, low, at, (last_stop course, length course.moves, inr (now _ _ is, off_there)))

-- ---- what stands at a ticket

unwrapped : (o : Option PresenceMark) (x d : PresenceMark) → o ≡ Some x → unwrap_or o d ≡ x
unwrapped o x d e = ap (λ p. unwrap_or p d) e

small-at : (ws : List Write) (i : ℕ) (w : Write) → AreSmall ws → slice_get ws i ≡ Some w → IsSmallWrite w
unfolding AreSmall
small-at [] i w small is = let bad : None ≡ Some w = is in cc
small-at (x ∷ ws) zero w small is = subst IsSmallWrite (same_Some x w is) small.0
small-at (x ∷ ws) (suc i) w small is = small-at ws i w small.1 is

never : (p q r : Bool) → q ≡ true → (p && not (p && (q || r))) ≡ false
never p q r e = rw e (grind arith)

never-on : (p q r s : Bool) → r ≡ true → s ≡ true → (p && not (p && (q || (r && s)))) ≡ false
never-on p q r s e f = rw (e, f) (grind arith)

module _ (laws : Laws) (setting : Setting) (scripts : Scripts) (history : History)
    (over : IsOver setting scripts history) (sub : ℕ) (known : sub < subs setting) where
  abbrev all : List Write
  all = all_writes laws setting scripts history over sub known

  abbrev seen : List ℕ
  seen = tickets sub history

  -- the subscriber's visits are all its writes
  pub count-all : length seen ≡ length all
  count-all = all-made laws.in_order setting scripts history sub known over.played (over.done sub)

  own-all : own sub history ≡ map (visit_of sub) all
  own-all =
      laws.in_order setting scripts history sub known over.played
      ∙ take_all (length (own sub history)) (map (visit_of sub) all)
      (omega (arith, length-map all (visit_of sub), count-all, tickets-count sub history))

  -- what is visited with its tickets
  pub visit-at : (i : ℕ) (w : Write) → i < length seen → slice_get all i ≡ Some w
      → slice_get history (slice_index seen i) ≡ Some (visit_of sub w)
  visit-at i w low is =
      same_Some (slice_get history (slice_index seen i)) (Some (visit_of sub w))
      (sym (ap (option_map (slice_get history)) (slice_get-get_or seen i 0 low))
      ∙ sym (slice_get-map (slice_get history) seen i)
      ∙ ap (λ (xs : List (Option Visit)). slice_get xs i) (laws.visits sub history ∙ ap (map Some) own-all)
      ∙ slice_get-map Some (map (visit_of sub) all) i
      ∙ ap (option_map Some) (slice_get-map (visit_of sub) all i ∙ ap (option_map (visit_of sub)) is))

  -- before a ticket as many visits are made as its place says
  pub count-at : (i : ℕ) → i < length seen
      → made_before laws setting scripts history over sub known (slice_index seen i) ≡ i
  count-at zero low =
      let few = cut-past laws setting scripts history over sub known (slice_index seen 0) 0 low (omega arith) in
      omega (arith, few)
  count-at (suc i) low =
      let few = cut-past laws setting scripts history over sub known (slice_index seen (suc i)) (suc i) low
      (omega arith) in
      let many = cut-below laws setting scripts history over sub known (slice_index seen (suc i)) i (omega (arith, low))
      ((tickets-are laws.ascend history sub).rise i (suc i) (omega arith) low) in
      omega (arith, few, many)

  -- what is written fits
  small-all : AreSmall all
  small-all =
      let whole : before (length history) history ≡ history = take_all (length history) history (omega arith) in
      let count : made_before laws setting scripts history over sub known (length history) ≡ length all =
      ap (λ (h : History). length (own sub h)) whole ∙ sym (tickets-count sub history) ∙ count-all in
      subst AreSmall
      (made-before laws setting scripts history over sub known (length history)
      ∙ ap (λ k. take k all) count ∙ take_all (length all) all (omega arith))
      (laws.small setting sub (before (length history) history) over.nodes
      (legal-before laws setting scripts history over sub known (length history)))

  -- a mark that is written is read
  pub mark-read : (i node : ℕ) (mark : PresenceMark) → slice_get all i ≡ Some (mark_at node mark)
      → mark_in (mark_word mark) ≡ mark
  mark-read i node mark is =
      unwrapped _ mark _ (laws.unpack mark (small-at all i (mark_at node mark) small-all is))

  -- the visit with the ticket of a switch is of no move
  pub switch-moves-not : (t : ℕ) → IsSwitchTicket seen all t → moves_at sub history t ≡ false
  switch-moves-not t (i, low, at, (node, number, inl is)) =
      ap (moves_by sub (before t history)) (ap (slice_get history) at ∙ visit-at i _ low is)
      ∙ never (sub == sub) (says_off (mark_in (mark_word (OffMark number)))) _
      (ap says_off (mark-read i node (OffMark number) is))
  switch-moves-not t (i, low, at, (node, number, inr both)) =
      let off : ends_off (puts_to sub (before t history)) ≡ true =
      off-before laws setting scripts history over sub known t
      ∙ ap (λ k. off_by false (take k all))
      (ap (made_before laws setting scripts history over sub known) at ∙ count-at i low) ∙ both.1 in
      ap (moves_by sub (before t history)) (ap (slice_get history) at ∙ visit-at i _ low both.0)
      ∙ never-on (sub == sub) (says_off (mark_in (mark_word (Here number)))) (ends_off (puts_to sub (before t history)))
      (says_here (mark_in (mark_word (Here number)))) off (ap says_here (mark-read i node (Here number) both.0))

  -- a ticket of a line of a switch is that of a switch
  pub switch-ticket : (t : ℕ) → list_any (is_switch_at t) (sub_lines setting scripts history sub) ≡ true
      → IsSwitchTicket seen all t
  switch-ticket t found =
      switch-lines setting sub t seen all (course_at (start setting sub)) (steps_of scripts sub) 0 []
      (over.valid.steps sub known).allowed refl (omega (arith, count-all)) refl refl found
