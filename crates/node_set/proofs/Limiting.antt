-- The places of numbers within a limit, bit by bit.
use Rattle.std.proofs.Common.{◌≡◌, ℕ, ◌+◌, ◌*◌, ◌/◌, ◌%◌, ◌<◌, ◌≤◌, ◌^◌, Bool, true, false, ◌&&◌, List, [], ◌∷◌, ◌++◌, length, get_or, take, set, sym, ◌∙◌, arith, w64}
use Rattle.std.specs.Prelude.{◌==◌, bit_or, nat_le, nat_lt, slice_index}
use Rattle.std.specs.Int.{bit_at}
use lib.Lanes.{mask_l}
use Rattle.std.proofs.lemmas.Simd.{bit_mask_l}
use Rattle.std.proofs.lemmas.Bool.Decides.{nat_tests}
use Rattle.std.proofs.lemmas.List.{length_push, length-set, get_or_append_left, get_or_push, take_all, take_more_set}
use Rattle.std.proofs.lemmas.Nat.Bits.{bit_at_set_same, bit_at_set_other}
use Rattle.node_set.specs.Ascending.{has, sift}
use Rattle.node_set.specs.Limits.{AreWithin}
use Rattle.node_set.specs.Nodes.{is_set, set_bits}
use Rattle.node_set.specs.SetLaws.{has-passing, passing_over, ascending-passing}
use Rattle.node_set.proofs.Words.{is_set_past, same_as_bits}

pub bit_of_mask : (ms : List Bool) (i : ℕ) → (bit_at (mask_l ms) i == 1) ≡ get_or ms i false
bit_of_mask ms i = grind (arith, nat_tests, bit_mask_l ms i)

-- the next number is within the limit
pub one_more : (test : ℕ → Bool) (word i : ℕ) → i < 64 → test i ≡ true
    → ((j : ℕ) → j < 64 → (bit_at word j == 1) ≡ (nat_lt j i && test j))
    → (j : ℕ) → j < 64 → (bit_at (bit_or word (1 * 2 ^ i % 2 ^ 64)) j == 1) ≡ (nat_lt j (i + 1) && test j)
one_more test word i below here before j short =
    grind (arith, nat_tests, bit_at_set_same w64 word i below, bit_at_set_other w64 word i below j)

-- it isn't
pub one_less : (test : ℕ → Bool) (word i : ℕ) → test i ≡ false
    → ((j : ℕ) → j < 64 → (bit_at word j == 1) ≡ (nat_lt j i && test j))
    → (j : ℕ) → j < 64 → (bit_at word j == 1) ≡ (nat_lt j (i + 1) && test j)
one_less test word i here before j short = grind (arith, nat_tests, before j short)

-- ---- one word more

module _ (numbers : List ℕ) (limit b count w : ℕ) (words : List ℕ) (before : AreWithin numbers limit (64 * b) words)
    (low : 64 * b < count) (high : count ≤ 64 * b + 64)
    (bits : (i : ℕ) → i < 64 → (bit_at w i == 1)
    ≡ (nat_lt (64 * b + i) count && nat_le (slice_index numbers (64 * b + i)) limit)) where
  long : length words ≡ b
  long = omega (arith, before.enough)

  each : (x : ℕ) → is_set (words ++ w ∷ []) x ≡ (nat_lt x count && nat_le (slice_index numbers x) limit)
  each x =
      grind (arith, get_or_append_left, get_or_push, long, length_push, is_set_past)

  pub word_more : AreWithin numbers limit count (words ++ w ∷ [])
  word_more = record { enough = omega (arith, length_push words w, long); each = each }

pub block_more : {numbers : List ℕ} {limit : ℕ} (b w : ℕ) {words : List ℕ} → AreWithin numbers limit (64 * b) words
    → ((i : ℕ) → i < 64 → (bit_at w i == 1) ≡ nat_le (slice_index numbers (64 * b + i)) limit)
    → AreWithin numbers limit (64 * (b + 1)) (words ++ w ∷ [])
block_more {numbers} {limit} b w {words} before bits =
    let next : 64 * (b + 1) ≡ 64 * b + 64 = omega arith in
    rw next (word_more numbers limit b (64 * b + 64) w words before (omega arith) (omega arith)
    (λ i below. grind (arith, nat_tests, bits i below)))

-- ---- the set of these words

is_within : (numbers : List ℕ) (limit x : ℕ)
    → has x (sift (λ y. nat_le (slice_index numbers y) limit) 0 (length numbers))
    ≡ (nat_lt x (length numbers) && nat_le (slice_index numbers x) limit)
is_within numbers limit x = grind (arith, has-passing, passing_over)

pub within_bits : {numbers : List ℕ} {limit : ℕ} {words : List ℕ} → AreWithin numbers limit (length numbers) words
    → set_bits words ≡ sift (λ x. nat_le (slice_index numbers x) limit) 0 (length numbers)
within_bits {numbers} {limit} {words} all =
    grind (arith, same_as_bits, ascending-passing, is_within)

pub none_after : {numbers : List ℕ} {limit : ℕ} {words : List ℕ} → AreWithin numbers limit (length numbers) words
    → (v : ℕ) → length numbers ≤ v → is_set words v ≡ false
none_after all v over = grind (arith, nat_tests, all.each v)

-- ---- words that were there, filled one by one

module _ (numbers : List ℕ) (limit block : ℕ) (words : List ℕ) (count : length words ≡ (length numbers + 63) / 64)
    (whole : block ≡ length numbers / 64) (before : AreWithin numbers limit (64 * block) (take block words)) where
  -- no word is left
  pub all_filled : length numbers % 64 ≡ 0 → AreWithin numbers limit (length numbers) words
  all_filled none =
      grind (arith, take_all)

  -- one word is left
  pub last_filled : (w : ℕ) → 0 < length numbers % 64
      → ((i : ℕ) → i < 64 → (bit_at w i == 1)
      ≡ (nat_lt (64 * block + i) (length numbers) && nat_le (slice_index numbers (64 * block + i)) limit))
      → AreWithin numbers limit (length numbers) (set words block w)
  last_filled w some bits =
      let written : take (block + 1) (set words block w) ≡ set words block w =
      take_all (block + 1) (set words block w) (omega (arith, length-set words block w)) in
      rw (sym (take_more_set words block w (omega arith)) ∙ written)
      at (word_more numbers limit block (length numbers) w (take block words) before (omega arith) (omega arith) bits)
