-- A history at a ticket and at a later one: what grows, and what one of the two tells of the other.
use Rattle.std.proofs.Common.{◌≡◌, inl, inr, ℕ, ◌+◌, ◌-◌, ◌≤◌, ◌^◌, true, false, List, ◌++◌, Some, None, length, take, drop, sym, ap, ◌∙◌, subst, arith, length-append}
use Rattle.std.specs.Prelude.{is_some, slice_get}
use Rattle.std.proofs.lemmas.List.{take-append-drop, take-append-le, take-take, take_all}
use Rattle.std.proofs.lemmas.List.Elements.{filter-append}
use Rattle.std.proofs.lemmas.List.Sums.{fold-append}
use Rattle.entry_word.specs.declared.visit.Visit.{Visit}
use Rattle.directory.specs.Settings.{Setting, start}
use Rattle.directory.specs.Courses.{after_steps, base, Course, course_at, Move}
use Rattle.directory.specs.ListLaws.{slice_get-left}
use Rattle.directory.specs.Histories.{before, History, is_put_for, puts_to}
use Rattle.directory.specs.HistoryLaws.{commits-append}
use Rattle.directory.specs.Legal.{IsLegal}
use Rattle.directory.specs.Puts.{course_in, ends_off, steps_from, steps_in}
use Rattle.directory.specs.Standing.{Commit, commits, number}
use Rattle.directory.specs.StepLaws.{start-kept, steps-append}
use Rattle.trail_laws.specs.Trail.{entry_seen}
use Rattle.busy_finds.specs.LawsBelow.{HistoryFacts}
use Rattle.busy_finds.specs.Within.{IsWithin, moves_of}
use Rattle.busy_finds.proofs.Current.{current, currents-have}
use Rattle.busy_finds.proofs.Moves.{AreInPlace, base-changed, base-within, IsRenewedSince, moves-added, place-steps, stop-kept, stop_of}

-- the later front is the earlier one and what comes after
after-front : (t u : ℕ) (history : History) → t ≤ u
    → (more : History) × (before u history ≡ before t history ++ more)
after-front t u history h = (
  drop t (take u history),
  sym (take-append-drop t (take u history)) ∙ ap (λ xs. xs ++ drop t (take u history)) (take-take t u history h),
)

pub more-commits : (sub t u : ℕ) (history : History) → t ≤ u
    → (more : List Commit) × (commits sub (before u history) ≡ commits sub (before t history) ++ more)
more-commits sub t u history h =
    let rest = after-front t u history h in
    (commits sub rest.0, ap (commits sub) rest.1 ∙ commits-append sub (before t history) rest.0)

pub number-more : (sub t u : ℕ) (history : History) → t ≤ u
    → number sub (before t history) ≤ number sub (before u history)
number-more sub t u history h =
    let more = more-commits sub t u history h in
    omega (arith, ap length more.1, length-append (commits sub (before t history)) more.0)

pub more-puts : (sub t u : ℕ) (history : History) → t ≤ u
    → (more : List Visit) × (puts_to sub (before u history) ≡ puts_to sub (before t history) ++ more)
more-puts sub t u history h =
    let rest = after-front t u history h in (
      puts_to sub rest.0,
      ap (puts_to sub) rest.1 ∙ filter-append (λ (v : Visit). is_put_for sub v.act) (before t history) rest.0,
    )

-- the moves that are begun by a ticket are the first of those begun later
moves-of-puts : (setting : Setting) (sub : ℕ) (xs ys : List Visit)
    → (more : List Move)
    × ((course_in setting sub (xs ++ ys)).moves ≡ (course_in setting sub xs).moves ++ more)
moves-of-puts setting sub xs ys =
    let rest = moves-added setting (course_in setting sub xs) (steps_from (ends_off xs) ys) in (
      rest.0,
      ap (λ steps. (after_steps setting (course_at (start setting sub)) steps).moves) (steps-append false xs ys)
          ∙ (ap (λ (c : Course). c.moves) (fold-append _ (course_at (start setting sub)) (steps_in xs)
          (steps_from (ends_off xs) ys)) ∙ rest.1),
    )

pub more-moves : (setting : Setting) (sub t u : ℕ) (history : History) → t ≤ u
    → (more : List Move) × (moves_of setting sub (before u history) ≡ moves_of setting sub (before t history) ++ more)
more-moves setting sub t u history h =
    let rest = after-front t u history h in
    let moves = moves-of-puts setting sub (puts_to sub (before t history)) (puts_to sub rest.0) in (
      moves.0,
      ap (λ puts. (course_in setting sub puts).moves) (ap (puts_to sub) rest.1
          ∙ filter-append (λ (v : Visit). is_put_for sub v.act) (before t history) rest.0) ∙ moves.1,
    )

-- the moves of a legal history are each at their place
pub moves-in-place : {setting : Setting} {sub : ℕ} (history : History) → IsLegal setting sub history
    → AreInPlace setting (start setting sub) (moves_of setting sub history)
moves-in-place {setting} {sub} history legal =
    subst (λ n. AreInPlace setting n (moves_of setting sub history))
    (start-kept setting (course_at (start setting sub)) (steps_in (puts_to sub history)))
    (place-steps setting (course_at (start setting sub)) (steps_in (puts_to sub history))
    (record { begins = legal.script.begins; each = λ i move h. cc }) legal.script.allowed)

-- ---- the address of a level goes only where a move that renews it is committed
module _ (facts : HistoryFacts) {setting : Setting} {sub : ℕ} (history : History) (few : setting.nodes ≤ 2 ^ 16)
    (legal : IsLegal setting sub history) where
  pub legal-at : (t : ℕ) → IsLegal setting sub (before t history)
  legal-at t = facts.fronts setting sub history t few legal

  -- how many are committed by a ticket
  pub committed-by : (t : ℕ) → number sub (before t history) ≤ length (moves_of setting sub (before t history))
  committed-by t = (facts.commits_are setting sub (before t history) few (legal-at t)).0

  -- the node that a level counts at a ticket, told by the moves of a later one
  pub current-told : (t u level : ℕ) → t ≤ u
      → current (start setting sub) (moves_of setting sub (before u history)) (number sub (before t history)) level
      ≡ current (start setting sub) (moves_of setting sub (before t history)) (number sub (before t history)) level
  current-told t u level h =
      let more = more-moves setting sub t u history h in
      let place = moves-in-place (before t history) (legal-at t) in
      let low : base level (take (number sub (before t history)) (moves_of setting sub (before t history)))
      ≤ number sub (before t history) =
      base-within level (moves_of setting sub (before t history)) place (number sub (before t history)) (committed-by t) in
      let front : take (number sub (before t history)) (moves_of setting sub (before t history) ++ more.0)
      ≡ take (number sub (before t history)) (moves_of setting sub (before t history)) =
      take-append-le (number sub (before t history)) (moves_of setting sub (before t history)) more.0 (committed-by t) in
      ap (λ ms. current (start setting sub) ms (number sub (before t history)) level) more.1
      ∙ (ap (λ ms. stop_of (start setting sub) (moves_of setting sub (before t history) ++ more.0) (base level ms)) front
      ∙ stop-kept (start setting sub) (moves_of setting sub (before t history)) more.0 _ (omega (arith, low, committed-by t)))

  -- where the entry that had it is empty
  pub gone-renewed : (t u level : ℕ) → t ≤ u → level ≤ setting.top
      → entry_seen setting sub (before u history) level (setting.home level (current (start setting sub)
      (moves_of setting sub (before t history)) (number sub (before t history)) level)) ≡ None
      → IsRenewedSince (moves_of setting sub (before u history)) level (number sub (before t history))
      (number sub (before u history))
  gone-renewed t u level h below empty =
      elim (base-changed level (moves_of setting sub (before u history)) (number sub (before t history))
      (number sub (before u history) - number sub (before t history)) (omega (arith, committed-by u, grows))) [
        | inl same ↦
            let here : current (start setting sub) (moves_of setting sub (before u history))
            (number sub (before u history)) level
            ≡ current (start setting sub) (moves_of setting sub (before t history)) (number sub (before t history)) level =
            ap (λ n. current (start setting sub) (moves_of setting sub (before u history)) n level) (sym counted)
            ∙ (ap (stop_of (start setting sub) (moves_of setting sub (before u history))) same
            ∙ current-told t u level h) in
            let clash : false ≡ true = sym (ap is_some empty)
            ∙ (ap (λ n. is_some (entry_seen setting sub (before u history) level (setting.home level n))) (sym here)
            ∙ currents-have facts.writes setting sub (before u history) few (legal-at u) level below) in cc
        | inr so ↦ subst (λ n. IsRenewedSince (moves_of setting sub (before u history)) level
            (number sub (before t history)) n) counted so
      ]
    where
      grows : number sub (before t history) ≤ number sub (before u history)
      grows = number-more sub t u history h

      counted : number sub (before t history) + (number sub (before u history) - number sub (before t history))
          ≡ number sub (before u history)
      counted = omega (arith, grows)

  -- a move that is committed by a ticket is one of the whole history's
  pub within-whole : (first u last level : ℕ) → u ≤ last
      → IsRenewedSince (moves_of setting sub (before u history)) level (number sub (before first history))
      (number sub (before u history))
      → (move : Move) × (level ≤ move.renewed) × IsWithin setting sub history first last move
  within-whole first u last level h so =
      let its = (moves-in-place (before u history) (legal-at u)).each so.place so.move so.is_move in
      let more = more-moves setting sub u (u + length history) history (omega arith) in
      let whole : before (u + length history) history ≡ history = take_all (u + length history) history (omega arith) in (
        so.move,
        so.renews,
        record {
          after = omega (arith, its.its_number, so.since);
          by = omega (arith, its.its_number, so.by, number-more sub u last history h);
          is = subst (λ n. slice_get (moves_of setting sub history) n ≡ Some so.move)
              (let e : so.place ≡ so.move.number - 1 = omega (arith, its.its_number) in e)
              (rw (← ap (moves_of setting sub) whole, more.1)
              (slice_get-left (moves_of setting sub (before u history)) more.0 so.place so.move so.is_move));
        },
      )
