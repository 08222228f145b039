use Rattle.std.proofs.Common.{◌≡◌, ℕ, List, [], ◌∷◌, ◌++◌, Some, Option, arith}
use Rattle.track.proofs.wrong.wrong_ends_alone.Goals as goal

other-part : (front back : List ℕ) → ◌≡◌ {A = List ℕ} (1 ∷ []) (front ++ back)
    → ◌≡◌ {A = Option (List ℕ)} (Some (2 ∷ [])) (Some front) → ⊥
other-part [] back e w = cc
other-part (x ∷ front) back e w = cc

pub returns : goal.returns
returns c = record {
  silent = λ r. cc r.0;
  read = λ r. cc r.2.0;
  no_fault = λ r. omega (arith, r.0.0);
  other = λ r. other-part r.1.front r.1.back r.1.parts r.1.written;
  read_fault = λ r. let e : ◌≡◌ {A = ℕ} 1 0 = r.2.1 in omega (arith, e);
  write_fault = λ r. let e : ◌≡◌ {A = ℕ} 1 0 = r.1 in omega (arith, e);
  memory_spoke = λ r. cc r.0.0;
  memory_read = λ r. cc r.1.0;
  failed_read = λ r. cc r.2.0;
  refused = λ text before now r. r;
  unsound = λ text before now r. r;
  bad_words = λ text before now r. r;
  read_failed = λ text before now r. r;
  long = λ text before now r. r;
}
