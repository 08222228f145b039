-- The inequalities behind the growth of clusters and the number of phases.
-- Key laws: each statement is a clause of the law of its name, as `PowersAdd` of `powers_add`; the
-- first two are those of `bernoulli`.
use Rattle.std.specs.Prelude.{ℕ, suc, ◌+◌, ◌-◌, ◌*◌, ◌^◌, ◌<◌, ◌≤◌, List, length}
use Rattle.whole_powers.specs.Phases.{FallsBy}

-- Bernoulli's inequality, above one
abbrev pub BernoulliAbove : Type 0
BernoulliAbove = (k x : ℕ) → 1 + k * x ≤ (1 + x) ^ k

-- and below one: (q + 1) ^ k times 1 - k / (q + 1) is at most q ^ k
abbrev pub BernoulliBelow : Type 0
BernoulliBelow = (k q : ℕ) → suc q * suc q ^ k ≤ suc q * q ^ k + k * suc q ^ k

-- two bounds of one form add up
abbrev pub PowersAdd : Type 0
PowersAdd = (k r z1 z2 y1 y2 : ℕ) → 0 < k → z1 ^ k ≤ r * y1 ^ k → z2 ^ k ≤ r * y2 ^ k
    → (z1 + z2) ^ k ≤ r * (y1 + y2) ^ k

-- one phase more, where it takes the part d of the r that are left
abbrev pub OnePhase : Type 0
OnePhase = (k r d q : ℕ) → 0 < k → 0 < r → d ≤ r → r ^ k ≤ r * d ^ k → q ^ k ≤ k ^ k * (r - d)
    → suc q ^ k ≤ k ^ k * r

-- the number of phases: n falls to nothing in p steps, and p ^ k is at most k ^ k times n
abbrev pub PhasesBound : Type 0
PhasesBound = (k n : ℕ) (parts : List ℕ) → 0 < k → FallsBy k n parts
    → length parts ^ k ≤ k ^ k * n
