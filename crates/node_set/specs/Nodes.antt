-- What a set of node numbers is seen as: its room, and its members in strictly ascending order,
-- each below the room. Key law: `all_members` (a set is the list of the numbers below its room
-- that it has).
use Rattle.std.specs.Prelude.{◌≡◌, ℕ, ◌+◌, ◌*◌, ◌/◌, ◌%◌, ◌≤◌, Bool, false, List, length, slice_index, ◌==◌}
use Rattle.std.specs.Int.{bit_at}
use Rattle.node_set.specs.Ascending.{IsAscending, AllBelow, sift}

-- a set of numbers below its room
pub record Nodes : Type 0 where
  pub room : ℕ
  pub members : List ℕ

-- what every set keeps
pub record AreNodes (set : Nodes) : Type 0 where
  pub small : set.room ≤ 1024
  pub ascending : IsAscending set.members
  pub below : AllBelow set.room set.members

-- whether bit v is set in words of 64 bits
abbrev pub is_set : List ℕ → ℕ → Bool
is_set words v = bit_at (slice_index words (v / 64)) (v % 64) == 1

-- the numbers whose bits are set
abbrev pub set_bits : List ℕ → List ℕ
set_bits words = sift (is_set words) 0 (64 * length words)

-- the words of a set: enough of them for its room, and no bit set from the room on
pub record AreWords (room : ℕ) (words : List ℕ) : Type 0 where
  pub small : room ≤ 1024
  pub enough : length words ≡ (room + 63) / 64
  pub tail : (v : ℕ) → room ≤ v → is_set words v ≡ false
