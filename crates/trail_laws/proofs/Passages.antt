-- While a Coming stands whose move is committed, the passage of that move is open.
use Rattle.std.proofs.Common.{◌≡◌, ◌⊎◌, inl, inr, ℕ, zero, suc, ◌<◌, ◌≤◌, ◌^◌, Bool, true, false, List, [], ◌∷◌, ◌++◌, Option, Some, length, take, refl, sym, ap, ◌∙◌, arith, length-append}
use Rattle.std.specs.Prelude.{slice_get}
use Rattle.std.specs.List.{cons_option, last_or, list_any}
use Rattle.std.proofs.lemmas.Bool.{and_parts, cases_Bool, eqb-false, eqb-true, eq-eqb, ne_eqb}
use Rattle.std.proofs.Math.Bool.{or-false}
use Rattle.std.proofs.lemmas.List.Folds.{list_any-append}
use Rattle.std.proofs.lemmas.List.Sums.{fold-append}
use Rattle.entry_word.specs.Marks.{mark_in}
use Rattle.entry_word.specs.declared.mark.PresenceMark.TheVariants.{Coming}
use Rattle.entry_word.specs.declared.visit.Key.TheVariants.{Presence}
use Rattle.entry_word.specs.declared.visit.Act.{Act}
use Rattle.entry_word.specs.declared.visit.Visit.{Visit}
use Rattle.directory.specs.Settings.{Setting}
use Rattle.directory.specs.Histories.{cell, History, is_put_for, puts_to, word_after}
use Rattle.directory.specs.Courses.{after_steps}
use Rattle.directory.specs.Puts.{course_in, mark_put, mark_step, node_put, steps_from}
use Rattle.directory.specs.Legal.{IsLegal}
use Rattle.directory.specs.Standing.{Commit, confirms, number, passage}
use Rattle.directory.specs.StepLaws.{by_fronts, steps-append, take-more, puts-push_other, puts-push_own}
use Rattle.directory.specs.Statements.{CellsOfPuts, CommitsAreMoves, FrontsAreLegal}
use Rattle.trail_laws.specs.Trail.{mark_seen, MarksTell, MarkTells}
use Rattle.trail_laws.proofs.Passing.{cell-kept, front-legal}
use Rattle.directory.specs.HistoryLaws.{commits-append}

-- a put for a subscriber leaves the mark at a commit's node alone, and doesn't confirm it, or is that mark
put-cases : (c : Commit) (sub word : ℕ) (act : Act) → is_put_for sub act ≡ true
    → ((word_after (Presence c.to sub) word act ≡ word) × (confirms c (node_put act) (mark_put act) ≡ false))
    ⊎ (mark_in (word_after (Presence c.to sub) word act) ≡ mark_put act)
put-cases c sub word act put = grind (arith, cases_Bool, eqb-true, eq-eqb, eqb-false, ne_eqb)

put-course : (setting : Setting) (sub : ℕ) (puts : List Visit) (visit : Visit) → (off : Bool)
    × (course_in setting sub (puts ++ visit ∷ []) ≡ after_steps setting (course_in setting sub puts)
    (cons_option (mark_step off (node_put visit.act) (mark_put visit.act)) []))
unfolding steps_from
put-course setting sub puts visit = grind (arith, steps-append false puts (visit ∷ []), fold-append)

coming-grows : (setting : Setting) (sub : ℕ) (puts : List Visit) (visit : Visit) (p u : ℕ)
    → mark_put visit.act ≡ Coming p u
    → length (course_in setting sub puts).moves < length (course_in setting sub (puts ++ visit ∷ [])).moves
coming-grows setting sub puts visit p u comes = grind (arith, put-course setting sub puts visit, length-append)

-- what is used of the laws
pub record PassageLaws : Type 0 where
  pub cells : CellsOfPuts
  pub fronts : FrontsAreLegal
  pub moves : CommitsAreMoves
  pub marks : MarksTell

-- whether a visit confirms a commit
abbrev pub confirmed : Commit → Visit → Bool
confirmed c visit = confirms c (node_put visit.act) (mark_put visit.act)

-- once a commit is confirmed its number is reached, and no Coming of its move stands at its node
abbrev pub IsPast : Setting → ℕ → Commit → History → Type 0
IsPast setting sub c history =
    list_any (confirmed c) (puts_to sub history) ≡ true
    → (c.number ≤ number sub history) × ((u : ℕ) → mark_seen setting sub history c.to ≡ Coming c.number u → ⊥)

past-step : PassageLaws → {setting : Setting} {sub : ℕ} (c : Commit) (history : History) (visit : Visit)
    → setting.nodes ≤ 2 ^ 16 → c.to < setting.nodes → IsLegal setting sub history
    → IsLegal setting sub (history ++ visit ∷ []) → IsPast setting sub c history
    → IsPast setting sub c (history ++ visit ∷ [])
past-step laws {setting} {sub} c history visit low inside legal legal_more past any =
    elim (cases_Bool (is_put_for sub visit.act)) [
      | inl own ↦ at_cases own (put-cases c sub (cell setting history (Presence c.to sub)) visit.act own)
          (confirmed c visit) refl
      | inr other ↦ kept (cell-kept laws.cells setting sub history visit (Presence c.to sub) refl other)
          (ap (list_any (confirmed c)) (sym (puts-push_other sub history visit other)) ∙ any)
    ]
  where
    Goal : Type 0
    Goal = (c.number ≤ number sub (history ++ visit ∷ []))
        × ((u : ℕ) → mark_seen setting sub (history ++ visit ∷ []) c.to ≡ Coming c.number u → ⊥)

    after : cell setting (history ++ visit ∷ []) (Presence c.to sub)
        ≡ word_after (Presence c.to sub) (cell setting history (Presence c.to sub)) visit.act
    after = fold-append (λ w (v : Visit). word_after (Presence c.to sub) w v.act) _ history (visit ∷ [])

    tells : MarkTells setting sub (history ++ visit ∷ []) c.to (mark_seen setting sub (history ++ visit ∷ []) c.to)
    tells = laws.marks setting sub (history ++ visit ∷ []) low legal_more c.to inside

    count : number sub history ≤ number sub (history ++ visit ∷ [])
    count = grind (arith, commits-append, length-append)

    -- it was confirmed before, and the mark at its node stays
    kept : cell setting (history ++ visit ∷ []) (Presence c.to sub) ≡ cell setting history (Presence c.to sub)
        → list_any (confirmed c) (puts_to sub history) ≡ true → Goal
    kept same earlier = grind (arith, count)

    earlier : is_put_for sub visit.act ≡ true → confirmed c visit ≡ false
        → list_any (confirmed c) (puts_to sub history) ≡ true
    earlier own g = grind (arith, puts-push_own, list_any-append, or-false)

    at_cases : is_put_for sub visit.act ≡ true
        → ((word_after (Presence c.to sub) (cell setting history (Presence c.to sub)) visit.act
        ≡ cell setting history (Presence c.to sub)) × (confirmed c visit ≡ false))
        ⊎ (mark_in (word_after (Presence c.to sub) (cell setting history (Presence c.to sub)) visit.act)
        ≡ mark_put visit.act) → (b : Bool) → confirmed c visit ≡ b → Goal
    at_cases own (inl same) b g = kept (after ∙ same.0) (earlier own same.1)
    at_cases own (inr new) true g = grind (arith, after, and_parts, eqb-true, tells)
    at_cases own (inr new) false g =
        let before = past (earlier own g) in (
          omega (arith, before.0, count),
          grind (arith, tells, coming-grows, after, puts-push_own),
        )

past-all : PassageLaws → {setting : Setting} {sub : ℕ} (c : Commit) (history : History) → setting.nodes ≤ 2 ^ 16
    → c.to < setting.nodes → IsLegal setting sub history → IsPast setting sub c history
past-all laws {setting} {sub} c history low inside legal =
    by_fronts (IsPast setting sub c) history (λ any. cc) (λ t visit found past. past-step laws c (take t history) visit
    low inside (front-legal laws.fronts setting sub history t low legal) (rw (take-more history t visit found) at
    (front-legal laws.fronts setting sub history (suc t) low legal)) past)

last-get : (xs : List Commit) (n : ℕ) (o : Option Commit) (c : Commit) → suc n ≡ length xs
    → slice_get xs n ≡ Some c → last_or o xs ≡ Some c
last-get (y ∷ []) zero o c h g = g
last-get (y ∷ z ∷ ys) (suc n) o c h g = last-get (z ∷ ys) n (Some y) c (omega (arith, h)) g
last-get xs n o c h g = absurd (omega (arith, h))

-- a Coming whose move is committed opens its passage
pub coming-opens : PassageLaws → {setting : Setting} {sub : ℕ} (history : History) (node p u : ℕ)
    → setting.nodes ≤ 2 ^ 16 → node < setting.nodes → IsLegal setting sub history
    → mark_seen setting sub history node ≡ Coming p u → p ≡ number sub history
    → passage setting sub history ≡ setting.distance u node
coming-opens laws {setting} {sub} history node p u low inside legal comes reached =
    grind (arith, its, laws.marks setting sub history low legal u, last-get, past-all, c)
  where
    its : MarkTells setting sub history node (Coming p u)
    its = rw comes at (laws.marks setting sub history low legal node inside)

    c : Commit
    c = record { number = p; from = u; to = node }
