-- A number that falls to nothing, each time by a large enough part of itself.
-- Key law: `phases_bound`: where `n` falls to nothing in `p` steps, `p ^ k ≤ k ^ k * n`.
use Rattle.std.specs.Prelude.{◌≡◌, ℕ, ◌-◌, ◌*◌, ◌^◌, ◌<◌, ◌≤◌, List, [], ◌∷◌}

-- r falls to 0 by the parts in turn; a part d of the r that are left is large: d ^ k is at least r
-- ^ (k - 1), written r ^ k ≤ r * d ^ k
abbrev pub FallsBy : ℕ → ℕ → List ℕ → Type 0
FallsBy k r [] = r ≡ 0
FallsBy k r (d ∷ ds) = (0 < r) × (d ≤ r) × (r ^ k ≤ r * d ^ k) × FallsBy k (r - d) ds
