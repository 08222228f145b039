-- Lists of words of one length, place by place: whether they have a bit in common, and what either
-- has. Key laws: `lanes_meet` (whether two lists have a bit in common) and `lanes_absorb` (one gets
-- the bits of the other too).
use Rattle.std.specs.Prelude.{◌≡◌, ℕ, ◌-◌, ◌<◌, ◌≤◌, List, length, slice_index, bit_and, bit_or}
use Rattle.std.specs.Int.{bit_at}

-- a place from `from` on and below `to` has a bit that is set in both: their common bits aren't
-- none
abbrev pub MeetWithin : List ℕ → List ℕ → ℕ → ℕ → Type 0
MeetWithin a b from to = (k : ℕ) × (from ≤ k) × (k < to)
    × (0 < bit_and (slice_index a k) (slice_index b k))

-- some place has a bit that is set in both
abbrev pub Meet : List ℕ → List ℕ → Type 0
Meet a b = (k : ℕ) × (i : ℕ) × (k < length a) × (i < 64) × (bit_at (slice_index a k) i ≡ 1)
    × (bit_at (slice_index b k) i ≡ 1)

-- at each place from `from` on and below `to` the new list has the bits of either, and else what it
-- had
pub record AreWordsJoinedWithin (a b new : List ℕ) (from to : ℕ) : Type 0 where
  pub enough : length new ≡ length a
  pub joined : (k : ℕ) → from ≤ k → k < to
      → slice_index new k ≡ bit_or (slice_index a k) (slice_index b k)
  pub before : (k : ℕ) → k < from → slice_index new k ≡ slice_index a k
  pub after : (k : ℕ) → to ≤ k → slice_index new k ≡ slice_index a k

-- at each place the new list has the bits of either
pub record AreWordsJoined (a b new : List ℕ) : Type 0 where
  pub enough : length new ≡ length a
  pub joined : (k : ℕ) → k < length a
      → slice_index new k ≡ bit_or (slice_index a k) (slice_index b k)

-- at each place the new list has the bits of both
pub record AreWordsKept (a b new : List ℕ) : Type 0 where
  pub enough : length new ≡ length a
  pub kept : (k : ℕ) → k < length a
      → slice_index new k ≡ bit_and (slice_index a k) (slice_index b k)

-- at each place the new list has the bits of the first that the second hasn't
pub record AreWordsRemoved (a b new : List ℕ) : Type 0 where
  pub enough : length new ≡ length a
  pub left : (k i : ℕ) → k < length a → i < 64
      → bit_at (slice_index new k) i ≡ bit_at (slice_index a k) i - bit_at (slice_index b k) i
