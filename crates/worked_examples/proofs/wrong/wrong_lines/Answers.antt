use Rattle.std.proofs.Common.{◌≡◌, ℕ, zero, suc, ◌<◌, ◌≤◌, ◌+◌, ◌*◌, false, [], ◌∷◌, refl, sym, ◌∙◌, arith}
use Rattle.std.proofs.lemmas.Bool.{true≢false}
use Rattle.std.specs.Prelude.{None}
use Rattle.directory.specs.Courses.{highest, move_to}
use Rattle.directory.specs.Writes.{writes, visits}
use Rattle.directory.specs.Looks.{moves_at}
use Rattle.directory.specs.declared.answers.FindLine.{FindLine}
use Rattle.directory.specs.declared.answers.Found.{Found}
use Rattle.directory.specs.declared.answers.Found.TheVariants.{At, Off as OffAt, Again}
use Rattle.directory.specs.declared.answers.Why.TheVariants.{NoEntry}
use Rattle.plan_laws.specs.Examples.{line_setting}
use Rattle.worked_examples.specs.Passes.{count_by}
use Rattle.worked_examples.proofs.wrong.wrong_lines.Goals as goal

pub returns-clause-node : goal.returns-clause-node
returns-clause-node c = λ r. let e : ◌≡◌ {A = ℕ} 2 3 = r.0 in omega (arith, e)

pub returns-clause-number : goal.returns-clause-number
returns-clause-number c = λ r. let e : ◌≡◌ {A = ℕ} 1 0 = r.1 in omega (arith, e)

pub returns-clause-on : goal.returns-clause-on
returns-clause-on c = λ r. true≢false (sym r.2)

pub returns-clause-off : goal.returns-clause-off
unfolding writes highest
returns-clause-off c = λ r. true≢false r.2

pub returns-clause-off_node : goal.returns-clause-off_node
unfolding writes highest
returns-clause-off_node c = λ r. let e : ◌≡◌ {A = ℕ} 2 3 = r.0 in omega (arith, e)

pub returns-clause-off_number : goal.returns-clause-off_number
unfolding writes highest
returns-clause-off_number c = λ r. let e : ◌≡◌ {A = ℕ} 1 0 = r.1 in omega (arith, e)

later : (t : ℕ) → 6 ≤ t → moves_at 0 (visits line_setting 0 (move_to 2 ∷ [])) t ≡ false
unfolding writes highest
later zero h = absurd (omega arith)
later (suc zero) h = absurd (omega arith)
later (suc (suc zero)) h = absurd (omega arith)
later (suc (suc (suc zero))) h = absurd (omega arith)
later (suc (suc (suc (suc zero)))) h = absurd (omega arith)
later (suc (suc (suc (suc (suc zero))))) h = absurd (omega arith)
later (suc (suc (suc (suc (suc (suc t)))))) h = refl

pub returns-clause-early_cause : goal.returns-clause-early_cause
returns-clause-early_cause c = λ r. true≢false (sym r.3 ∙ later r.0 r.1)

first-no : (t : ℕ) → t ≤ 0 → moves_at 0 (count_by 1 0 ∷ visits line_setting 0 (move_to 2 ∷ [])) t ≡ false
first-no zero h = refl
first-no (suc t) h = absurd (omega (arith, h))

pub returns-clause-late_cause : goal.returns-clause-late_cause
returns-clause-late_cause c = λ r. true≢false (sym r.3 ∙ first-no r.0 r.2)

pub returns-clause-heavy : goal.returns-clause-heavy
returns-clause-heavy c = λ r. let e : 412 ≤ 137 * 3 + 2 * 0 = (r (λ t a b. refl)).1 in omega (arith, e)

pub returns-clause-heavy_off : goal.returns-clause-heavy_off
returns-clause-heavy_off c = λ r. let e : 412 ≤ 137 * 3 + 2 * 0 = (r (λ t a b. refl)).1 in omega (arith, e)

pub returns-clause-quiet_again : goal.returns-clause-quiet_again
returns-clause-quiet_again c = λ r. (r (λ t a b. refl)).0

pub returns-clause-falling : goal.returns-clause-falling
returns-clause-falling c = λ actor other sub r. let e : 2 ≤ 1 = r 0 1 _ _ refl refl sub 2 1 3 5 (refl, refl, refl)
    (refl, refl, refl) (omega arith) in omega (arith, e)

pub returns-clause-falling_off : goal.returns-clause-falling_off
returns-clause-falling_off c = λ actor other sub r. let e : 2 ≤ 1 = r 0 1 _ _ refl refl sub 2 1 3 5 (refl, refl, refl)
    (refl, refl, refl) (omega arith) in omega (arith, e)

pub returns-clause-falling_first : goal.returns-clause-falling_first
returns-clause-falling_first c = λ actor other sub r. let e : 2 ≤ 1 = r 1 0 _ _ refl refl sub 2 1 3 5 (refl, refl, refl)
    (refl, refl, refl) (omega arith) in omega (arith, e)

abbrev find : ℕ → ℕ → Found → ℕ → ℕ → FindLine
find actor sub found first last =
    record { actor = actor; from = 0; sub = sub; found = found; first = first; last = last }

pub returns-clause-out_of_turn : goal.returns-clause-out_of_turn
returns-clause-out_of_turn c = λ actor sub other r. let e : 5 < 0 = (r 0 1 _ _ (omega arith) refl refl refl
    (find actor sub (At 3 2 None 0) 4 5) (find actor other (At 3 2 None 0) 0 3) refl refl).0 in omega (arith, e)

pub returns-clause-off_out_of_turn : goal.returns-clause-off_out_of_turn
returns-clause-off_out_of_turn c = λ actor sub other r. let e : 5 < 0 = (r 0 1 _ _ (omega arith) refl refl refl
    (find actor sub (OffAt 3 2 None 0) 4 5) (find actor other (At 3 2 None 0) 0 3) refl refl).0 in omega (arith, e)

pub returns-clause-again_out_of_turn : goal.returns-clause-again_out_of_turn
returns-clause-again_out_of_turn c = λ actor sub other r. let e : 6 < 5 = (r 0 1 _ _ (omega arith) refl refl refl
    (find actor sub (Again NoEntry 0) 4 6) (find actor other (At 3 2 None 0) 5 7) refl refl).0 in omega (arith, e)

pub returns-clause-at_once : goal.returns-clause-at_once
returns-clause-at_once c = λ actor sub other r. let e : 5 < 5 = (r 0 1 _ _ (omega arith) refl refl refl
    (find actor sub (At 3 2 None 0) 4 5) (find actor other (At 3 2 None 0) 5 7) refl refl).0 in omega (arith, e)

pub returns-clause-turned : goal.returns-clause-turned
returns-clause-turned c = λ actor sub other r. let e : 5 ≤ 4 = (r 0 1 _ _ (omega arith) refl refl refl
    (find actor sub (At 3 2 None 0) 0 3) (find actor other (At 3 2 None 0) 5 4) refl refl).1 in omega (arith, e)
