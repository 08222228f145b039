-- A law of the texts of censuses, for proofs. Key law: `texts-same` (where the same are told to be
-- at each node, the texts are the same).
use Rattle.std.proofs.Common.{◌≡◌, ℕ, zero, suc, ◌<◌, List, refl, arith}
use Rattle.census_text.specs.CensusText.{census_text_of, count_below, node_lines}

lines-same : (who other : ℕ → List ℕ) (n : ℕ) → ((v : ℕ) → v < n → who v ≡ other v)
    → node_lines who n ≡ node_lines other n
lines-same who other zero same = refl
lines-same who other (suc n) same =
    rw (lines-same who other n (λ v below. same v (omega arith)), same n (omega arith)) refl

count-same : (who other : ℕ → List ℕ) (n : ℕ) → ((v : ℕ) → v < n → who v ≡ other v)
    → count_below who n ≡ count_below other n
count-same who other zero same = refl
count-same who other (suc n) same =
    rw (count-same who other n (λ v below. same v (omega arith)), same n (omega arith)) refl

pub texts-same : (who other : ℕ → List ℕ) (n : ℕ) → ((v : ℕ) → v < n → who v ≡ other v)
    → census_text_of who n ≡ census_text_of other n
texts-same who other n same =
    rw (lines-same who other n same, count-same who other n same) refl
