-- The next number of a set: the least one from a number on. Key law: `NodeSet::next_from` (it gives
-- that number, or says that there is none).
use Rattle.std.specs.Prelude.{◌≡◌, ℕ, ◌<◌, ◌≤◌, true, false, List}
use Rattle.node_set.specs.Ascending.{has}

-- v is the least of the numbers from `from` on
pub record IsNext (members : List ℕ) (from v : ℕ) : Type 0 where
  pub reached : from ≤ v
  pub member : has v members ≡ true
  pub first : (x : ℕ) → from ≤ x → x < v → has x members ≡ false

-- there is no number from `from` on
abbrev pub IsNoneFrom : List ℕ → ℕ → Type 0
IsNoneFrom members from = (x : ℕ) → from ≤ x → has x members ≡ false
