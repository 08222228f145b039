-- Which numbers of a list are within a limit, as bits by their places. Key law: `NodeSet::within`
-- (the set of these places).
use Rattle.std.specs.Prelude.{◌≡◌, ℕ, ◌+◌, ◌/◌, ◌&&◌, List, length, nat_le, nat_lt, slice_index}
use Rattle.node_set.specs.Nodes.{is_set}

-- of the first so many numbers the words have the places of those that are at most the limit
pub record AreWithin (numbers : List ℕ) (limit count : ℕ) (words : List ℕ) : Type 0 where
  pub enough : length words ≡ (count + 63) / 64
  pub each : (x : ℕ) → is_set words x ≡ (nat_lt x count && nat_le (slice_index numbers x) limit)
