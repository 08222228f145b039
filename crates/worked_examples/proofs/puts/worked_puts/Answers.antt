use Rattle.std.proofs.Common.{◌≡◌, ◌≤◌, ℕ, suc, true, false, true≢false, [], ◌∷◌, refl, sym, ◌∙◌, subst, arith, inl, inr}
use Rattle.std.proofs.lemmas.Bool.{cases_lt}
use Rattle.directory.specs.Histories.{History}
use Rattle.directory.specs.Looks.{IsQuiet, moves_at}
use Rattle.directory.specs.Courses.{move_to, switch_off, switch_on, highest}
use Rattle.directory.specs.Writes.{visits, writes}
use Rattle.plan_laws.specs.Examples.{line_setting}
use Rattle.directory.specs.Puts.{steps_from}
use Rattle.worked_examples.proofs.puts.worked_puts.Goals as goal

-- two tickets of which neither has a put of a move
quiet_pair : (history : History) (first : ℕ) → moves_at 0 history first ≡ false
    → moves_at 0 history (suc first) ≡ false → IsQuiet history 0 first (suc first)
quiet_pair history first one other ticket low high = elim (cases_lt first ticket) [
  | inl below ↦
      let last : suc first ≡ ticket = omega arith in
      subst (λ n. moves_at 0 history n ≡ false) last other
  | inr above ↦
      let same : first ≡ ticket = omega arith in subst (λ n. moves_at 0 history n ≡ false) same one
]

-- a put of a move between two tickets breaks the quiet
broken : (history : History) (first last ticket : ℕ) → moves_at 0 history ticket ≡ true → first ≤ ticket
    → ticket ≤ last → IsQuiet history 0 first last → ⊥
broken history first last ticket moves low high quiet = true≢false (sym moves ∙ quiet ticket low high)

pub returns-clause-standings : goal.returns-clause-standings
unfolding writes highest steps_from
returns-clause-standings c = refl

pub returns-clause-numbers : goal.returns-clause-numbers
unfolding writes highest steps_from
returns-clause-numbers c = refl

pub returns-clause-passages : goal.returns-clause-passages
unfolding writes highest steps_from
returns-clause-passages c = refl

pub returns-clause-offs : goal.returns-clause-offs
unfolding writes highest steps_from
returns-clause-offs c = refl

pub returns-clause-censuses : goal.returns-clause-censuses
unfolding writes highest steps_from
returns-clause-censuses c = refl

pub returns-clause-censuses_before : goal.returns-clause-censuses_before
unfolding writes highest steps_from
returns-clause-censuses_before c = refl

pub returns-clause-steps_shown : goal.returns-clause-steps_shown
unfolding writes highest steps_from
returns-clause-steps_shown c = refl

pub returns-clause-left : goal.returns-clause-left
unfolding writes highest steps_from
returns-clause-left c = refl

pub returns-clause-here_changes : goal.returns-clause-here_changes
unfolding writes highest steps_from
returns-clause-here_changes c = refl

pub returns-clause-moves_told : goal.returns-clause-moves_told
unfolding writes highest steps_from
returns-clause-moves_told c = refl

pub returns-clause-moves_told_later : goal.returns-clause-moves_told_later
unfolding writes highest steps_from
returns-clause-moves_told_later c = refl

pub returns-clause-quiet_at_switches : goal.returns-clause-quiet_at_switches
unfolding writes highest steps_from
returns-clause-quiet_at_switches c =
    quiet_pair (visits line_setting 0 (move_to 2 ∷ switch_off ∷ switch_on ∷ [])) 6 refl refl

pub returns-clause-first_put_is_of_a_move : goal.returns-clause-first_put_is_of_a_move
unfolding writes highest steps_from
returns-clause-first_put_is_of_a_move c =
    broken (visits line_setting 0 (move_to 2 ∷ switch_off ∷ switch_on ∷ [])) 5 6 5 refl (omega arith)
    (omega arith)

pub returns-clause-last_put_is_of_a_move : goal.returns-clause-last_put_is_of_a_move
unfolding writes highest steps_from
returns-clause-last_put_is_of_a_move c =
    broken (visits line_setting 0 (switch_off ∷ switch_on ∷ move_to 2 ∷ [])) 1 2 2 refl (omega arith)
    (omega arith)

pub returns-clause-quiet_before_a_move : goal.returns-clause-quiet_before_a_move
unfolding writes highest steps_from
returns-clause-quiet_before_a_move c =
    quiet_pair (visits line_setting 0 (switch_off ∷ switch_on ∷ move_to 2 ∷ [])) 0 refl refl

pub returns-clause-moves_between_switches : goal.returns-clause-moves_between_switches
unfolding writes highest steps_from
returns-clause-moves_between_switches c =
    broken (visits line_setting 0 (switch_off ∷ switch_on ∷ move_to 2 ∷ switch_off ∷ [])) 1 8 4 refl
    (omega arith) (omega arith)

pub returns-clause-through_has_it : goal.returns-clause-through_has_it
unfolding writes highest steps_from
returns-clause-through_has_it c = refl

pub returns-clause-passages_again : goal.returns-clause-passages_again
unfolding writes highest steps_from
returns-clause-passages_again c = refl

pub returns-clause-steps_after_switches : goal.returns-clause-steps_after_switches
unfolding writes highest steps_from
returns-clause-steps_after_switches c = refl

pub returns-clause-fourth_writes : goal.returns-clause-fourth_writes
unfolding writes highest steps_from
returns-clause-fourth_writes c = refl

pub returns-clause-three_writes : goal.returns-clause-three_writes
unfolding writes highest steps_from
returns-clause-three_writes c = refl

pub returns-clause-entry_at_leader : goal.returns-clause-entry_at_leader
unfolding writes highest steps_from
returns-clause-entry_at_leader c = refl

pub returns-clause-no_such_level : goal.returns-clause-no_such_level
unfolding writes highest steps_from
returns-clause-no_such_level c = refl

pub returns-clause-no_such_subscriber : goal.returns-clause-no_such_subscriber
unfolding writes highest steps_from
returns-clause-no_such_subscriber c = refl
