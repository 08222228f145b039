-- While nothing is put for a move of a subscriber none of its moves is committed.
use Rattle.std.proofs.Common.{◌≡◌, inl, inr, ℕ, zero, suc, ◌+◌, ◌-◌, ◌≤◌, Bool, true, false, [], ◌∷◌, ◌++◌, None, length, refl, sym, ap, ◌∙◌, arith, length-append}
use Rattle.std.proofs.lemmas.Bool.{cases_lt}
use Rattle.std.proofs.lemmas.List.{take_all}
use Rattle.entry_word.specs.declared.mark.PresenceMark.{PresenceMark}
use Rattle.entry_word.specs.declared.mark.PresenceMark.TheVariants.{Empty, Here, Gone, Coming, Off}
use Rattle.entry_word.specs.declared.visit.Visit.{Visit}
use Rattle.directory.specs.Histories.{before, History, is_put_for, puts_to}
use Rattle.directory.specs.HistoryLaws.{commits-append}
use Rattle.directory.specs.Looks.{first_of, last_of, moves_at, moves_by}
use Rattle.directory.specs.Puts.{ends_off, is_of_move, mark_put, node_put}
use Rattle.directory.specs.Standing.{commit_of, commits, number}
use Rattle.directory.specs.StepLaws.{slice_get-within, take-more}
use Rattle.busy_finds.specs.Within.{QuietFindsMeetNoCommit}
use Rattle.busy_finds.proofs.ByStretch.{in-order}

-- a commit is a put of a move
no-commit : (sub : ℕ) (seen : History) (visit : Visit) → is_of_move sub seen visit.act ≡ false
    → commits sub (visit ∷ []) ≡ []
no-commit sub seen visit still = at_test (is_put_for sub visit.act) refl
  where
    at_mark : (mark : PresenceMark) → mark_put visit.act ≡ mark → is_put_for sub visit.act ≡ true
        → commit_of (node_put visit.act) mark ≡ None
    at_mark Empty is put = refl
    at_mark (Here p) is put = refl
    at_mark (Gone p to) is put = absurd (by_off (ends_off (puts_to sub seen)) refl)
      where
        by_off : (b : Bool) → ends_off (puts_to sub seen) ≡ b → ⊥
        by_off true off =
            let moves : is_of_move sub seen visit.act ≡ true = rw (put, is, off) refl in
            let clash : false ≡ true = sym still ∙ moves in cc
        by_off false off =
            let moves : is_of_move sub seen visit.act ≡ true = rw (put, is, off) refl in
            let clash : false ≡ true = sym still ∙ moves in cc
    at_mark (Coming p from) is put = refl
    at_mark (Off p) is put = refl

    at_test : (b : Bool) → is_put_for sub visit.act ≡ b → commits sub (visit ∷ []) ≡ []
    at_test true put = rw (put, at_mark (mark_put visit.act) refl put) refl
    at_test false put = rw put refl

module _ (history : History) (sub : ℕ) where
  still-step : (t : ℕ) → moves_at sub history t ≡ false
      → number sub (before (suc t) history) ≡ number sub (before t history)
  still-step t still = elim (cases_lt t (length history)) [
    | inl low ↦
        let found = slice_get-within history t low in
        let more : before (suc t) history ≡ before t history ++ found.0 ∷ [] = take-more history t found.0 found.1 in
        let none : commits sub (found.0 ∷ []) ≡ [] = no-commit sub (before t history) found.0
        (sym (ap (moves_by sub (before t history)) found.1) ∙ still) in
        omega (
          arith,
          ap (number sub) more,
          ap length (commits-append sub (before t history) (found.0 ∷ [])),
          length-append (commits sub (before t history)) (commits sub (found.0 ∷ [])),
          ap length none,
        )
    | inr beyond ↦ ap (number sub) (take_all (suc t) history (omega (arith, beyond)) ∙ sym (take_all t history beyond))
  ]

  still-for : (first k : ℕ) → ((u : ℕ) → first ≤ u → u ≤ first + k → moves_at sub history u ≡ false)
      → number sub (before (first + k) history) ≡ number sub (before first history)
  still-for first zero still = let e : first + 0 ≡ first = omega arith in ap (λ n. number sub (before n history)) e
  still-for first (suc k) still =
      let e : first + suc k ≡ suc (first + k) = omega arith in
      ap (λ n. number sub (before n history)) e
      ∙ (still-step (first + k) (still (first + k) (omega arith) (omega arith))
      ∙ still-for first k (λ u low high. still u low (omega (arith, high))))

pub quiet-still : QuietFindsMeetNoCommit
quiet-still setting history actor call found tickets find quiet =
    let first : ℕ = first_of tickets in
    let last : ℕ = last_of tickets in
    let e : first + (last - first) ≡ last = omega (arith, in-order find) in
    ap (λ n. number call.sub (before n history)) (sym e)
    ∙ still-for history call.sub first (last - first) (λ u low high. quiet u low (omega (arith, high, e)))
