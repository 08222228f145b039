-- What a legal history is at its fronts: they are legal, numbers only grow, and a look changes nothing.
use Rattle.std.proofs.Common.{inl, inr, ◌<◌, ◌≡◌, ℕ, zero, suc, ◌≤◌, ◌^◌, Bool, false, List, [], ◌∷◌, ◌++◌, Some, length, take, drop, filter, refl, sym, ap, ◌∙◌, arith, length-append}
use Rattle.std.proofs.lemmas.Bool.{cases_Bool, cases_eq}
use Rattle.std.specs.Prelude.{slice_get}
use Rattle.std.proofs.lemmas.List.{append-nil, length-take, take-append-drop, take-take}
use Rattle.std.proofs.lemmas.List.Elements.{filter-append}
use Rattle.std.proofs.lemmas.List.Sums.{fold-append}
use Rattle.entry_word.specs.declared.visit.Key.{Key}
use Rattle.entry_word.specs.declared.visit.Visit.{Visit}
use Rattle.directory.specs.Settings.{Setting}
use Rattle.directory.specs.Courses.{Course, Step, after_step, after_steps, move_to}
use Rattle.directory.specs.Keys.{key_sub}
use Rattle.directory.specs.Histories.{before, cell, History, is_put_for, puts_to, through}
use Rattle.directory.specs.Legal.{IsLegal}
use Rattle.directory.specs.Looks.{look_by, moves_at}
use Rattle.directory.specs.Puts.{course_in, ends_off, is_of_move, steps_from}
use Rattle.directory.specs.Standing.{Commit, commits, number}
use Rattle.directory.specs.StepLaws.{puts-push, puts-push_other, slice_get-within, steps-append, take-more}
use Rattle.directory.specs.Statements.{CellsOfPuts, FrontsAreLegal}
use Rattle.directory.specs.HistoryLaws.{commits-append}
use Rattle.trail_laws.specs.Phases.{moves_begun}

filter-front : (p : Visit → Bool) (t : ℕ) (xs : List Visit)
    → filter p (take t xs) ≡ take (length (filter p (take t xs))) (filter p xs)
filter-front p zero xs = refl
filter-front p (suc t) [] = refl
filter-front p (suc t) (x ∷ xs) = grind (arith, filter-front p t xs, cases_Bool)

-- a front of a legal history is legal
pub front-legal : FrontsAreLegal → (setting : Setting) (sub : ℕ) (history : History) (t : ℕ) → setting.nodes ≤ 2 ^ 16
    → IsLegal setting sub history → IsLegal setting sub (take t history)
front-legal fronts setting sub history t low legal = grind (arith, filter-front, length-take)

-- what a visit keeps that is none of a move holds from a front to a later one, while no move is made
module _ (fronts : FrontsAreLegal) {setting : Setting} {sub : ℕ} (history : History) (P : History → Type 0)
    (low : setting.nodes ≤ 2 ^ 16) (legal : IsLegal setting sub history)
    (one : (seen : History) (visit : Visit) → IsLegal setting sub seen → IsLegal setting sub (seen ++ visit ∷ [])
    → is_of_move sub seen visit.act ≡ false → P seen → P (seen ++ visit ∷ [])) where
  pub while-quiet : (t u : ℕ) → t ≤ u → u ≤ length history
      → ((x : ℕ) → t ≤ x → x < u → moves_at sub history x ≡ false) → P (before t history) → P (before u history)
  while-quiet t zero order within quiet now = let e : t ≡ 0 = omega arith in rw e at now
  while-quiet t (suc u) order within quiet now = elim (cases_eq t (suc u)) [
    | inl same ↦ rw same at now
    | inr apart ↦
        let found = slice_get-within history u (omega arith) in
        rw (take-more history u found.0 found.1) (one (before u history) found.0
        (front-legal fronts setting sub history u low legal)
        (rw (← take-more history u found.0 found.1) (front-legal fronts setting sub history (suc u) low legal))
        (grind (arith, quiet u)) (while-quiet t u (omega arith) (omega arith) (λ x h g. quiet x h (omega arith)) now))
  ]

further : (t u : ℕ) (history : History) → t ≤ u → take u history ≡ take t history ++ drop t (take u history)
further t u history h = sym (take-append-drop t (take u history))
    ∙ ap (λ xs. xs ++ drop t (take u history)) (take-take t u history h)

-- later commits only come behind
pub commits-grow : (sub t u : ℕ) (history : History) → t ≤ u
    → (more : List Commit) × (commits sub (take u history) ≡ commits sub (take t history) ++ more)
commits-grow sub t u history h = (
  commits sub (drop t (take u history)),
  ap (commits sub) (further t u history h) ∙ commits-append sub (take t history) (drop t (take u history)),
)

pub number-grows : (sub t u : ℕ) (history : History) → t ≤ u
    → number sub (take t history) ≤ number sub (take u history)
number-grows sub t u history h =
    let more = commits-grow sub t u history h in
    omega (arith, ap length more.1, length-append (commits sub (take t history)) more.0)

-- and so do moves that are begun later
moves-kept : (setting : Setting) (course : Course) (steps : List Step)
    → length course.moves ≤ length (after_steps setting course steps).moves
moves-kept setting course [] = omega arith
moves-kept setting course (move_to node ∷ steps) =
    grind (arith, moves-kept setting (after_step setting course (move_to node)) steps, length-append)
moves-kept setting course (step ∷ steps) = moves-kept setting (after_step setting course step) steps

pub begun-grows : (setting : Setting) (sub t u : ℕ) (history : History) → t ≤ u
    → moves_begun setting sub (take t history) ≤ moves_begun setting sub (take u history)
begun-grows setting sub t u history h = of_puts (puts_to sub (take t history)) (puts_to sub (drop t (take u history)))
    (ap (puts_to sub) (further t u history h)
    ∙ filter-append (λ (v : Visit). is_put_for sub v.act) (take t history) (drop t (take u history)))
  where
    of_puts : (xs ys : List Visit) → puts_to sub (take u history) ≡ xs ++ ys
        → length (course_in setting sub xs).moves ≤ length (course_in setting sub (puts_to sub (take u history))).moves
    of_puts xs ys same =
        rw (same, steps-append false xs ys, fold-append)
        (moves-kept setting (course_in setting sub xs) (steps_from (ends_off xs) ys))

-- after a look all is as before
pub through-look : (actor : ℕ) (key : Key) (t : ℕ) (history : History)
    → slice_get history t ≡ Some (look_by actor key) → through t history ≡ before t history ++ look_by actor key ∷ []
through-look actor key t history h = take-more history t (look_by actor key) h

pub puts-look : (sub actor : ℕ) (key : Key) (history : History)
    → puts_to sub (history ++ look_by actor key ∷ []) ≡ puts_to sub history
puts-look sub actor key history = puts-push sub history (look_by actor key) ∙ append-nil (puts_to sub history)

pub through-puts : (sub actor : ℕ) (key : Key) (t : ℕ) (history : History)
    → slice_get history t ≡ Some (look_by actor key) → puts_to sub (through t history)
    ≡ puts_to sub (before t history)
through-puts sub actor key t history h = ap (puts_to sub) (through-look actor key t history h)
    ∙ puts-look sub actor key (before t history)

-- what isn't put for a subscriber leaves its cells alone
pub cell-kept : CellsOfPuts → (setting : Setting) (sub : ℕ) (history : History) (visit : Visit) (key : Key)
    → key_sub key ≡ sub → is_put_for sub visit.act ≡ false
    → cell setting (history ++ visit ∷ []) key ≡ cell setting history key
cell-kept cells setting sub history visit key its other = grind (arith, puts-push_other)
