use Rattle.std.proofs.Common.{◌≡◌, ℕ, zero, suc, ◌<◌, ◌==◌, false, [], ◌∷◌, refl, arith}
use Rattle.std.specs.Prelude.{All}
use Rattle.std.proofs.lemmas.Bool.Decides.{nat_tests}
use Rattle.std.proofs.lemmas.List.Elements.{All-cons, All-nil}
use Rattle.directory.specs.declared.answers.Done.{Done}
use Rattle.soundness.specs.Examples.{find_amid, find_far, find_there, first_move, line_distance, second_move, told_lines, told_order}
use Rattle.soundness.specs.Places.{HasCause, NamesPlace}
use Rattle.soundness.specs.Turns.{TakeTurns, lines_of, tickets_from, tickets_of}
use Rattle.soundness.specs.Weights.{IsWeighed}
use Rattle.soundness.proofs.examples.sound_reports.Goals as goal

stranger : (m : ℕ) → (0 == m) ≡ false → (1 == m) ≡ false → (2 == m) ≡ false
    → TakeTurns (tickets_of m told_order) 0 (lines_of m told_lines)
unfolding tickets_from
stranger m a b c = rw (a, b, c) refl

by_actor : (actor : ℕ) → TakeTurns (tickets_of actor told_order) 0 (lines_of actor told_lines)
unfolding tickets_from
by_actor zero = (
  2,
  omega arith,
  ((omega arith, refl, refl), (1, omega arith, omega arith, refl)),
  (5, omega arith, ((omega arith, refl, refl), (4, omega arith, omega arith, refl)), refl),
)
by_actor (suc zero) =
    (1, omega arith, (omega arith, refl, refl), (3, omega arith, (omega arith, refl, refl), refl))
by_actor (suc (suc zero)) = (1, omega arith, (omega arith, refl, refl), refl)
by_actor (suc (suc (suc n))) =
    let m : ℕ = suc (suc (suc n)) in
    stranger m (apart 0 m (omega arith)) (apart 1 m (omega arith)) (apart 2 m (omega arith))
  where
    apart : (a b : ℕ) → a < b → (a == b) ≡ false
    apart a b less = grind (arith, nat_tests)

each : (P : Done → Type 0) → P first_move → P second_move → P find_amid → P find_there → P find_far
    → All P told_lines
each P a b c d e =
    All-cons P first_move (second_move ∷ find_amid ∷ find_there ∷ find_far ∷ []) a
    (All-cons P second_move (find_amid ∷ find_there ∷ find_far ∷ []) b
    (All-cons P find_amid (find_there ∷ find_far ∷ []) c
    (All-cons P find_there (find_far ∷ []) d (All-cons P find_far [] e (All-nil P)))))

pub returns-clause-told : goal.returns-clause-told
unfolding tickets_from
returns-clause-told c = record {
  lines_are = (
    first_move ∷ second_move ∷ [],
    find_amid ∷ find_there ∷ find_far ∷ [],
    refl,
    (first_move, second_move ∷ [], refl, (3, 0, 1, 4, refl), (second_move, [], refl, (1, 5, 6, 11, refl), refl)),
    (
      find_amid ∷ find_there ∷ [],
      find_far ∷ [],
      refl,
      (find_amid, find_there ∷ [], refl, (refl, refl, refl), (find_there, [], refl, (refl, refl, refl), refl)),
      (find_far ∷ [], [], refl, (find_far, [], refl, (refl, refl, refl), refl), refl),
    ),
  );
  tickets = by_actor;
  places = each (NamesPlace (3 ∷ []) told_lines) tt tt
      (record { node_is = refl; number_is = refl; off_is = refl })
      (record { node_is = refl; number_is = refl; off_is = refl })
      (record { node_is = refl; number_is = refl; off_is = refl });
  again = each (HasCause told_lines told_order) tt tt tt tt tt;
  weights = each (IsWeighed line_distance 144 told_lines told_order) refl refl (λ quiet. omega arith)
      (λ quiet. omega arith) (λ quiet. omega arith);
}

pub returns-clause-completed : goal.returns-clause-completed
returns-clause-completed c = (0 ∷ 2 ∷ [], refl, (omega arith, (omega arith, tt)))
