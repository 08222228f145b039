-- The scan of words for the next bit.
use Rattle.std.proofs.Common.{◌≡◌, inl, inr, ℕ, ◌+◌, ◌-◌, ◌*◌, ◌/◌, ◌%◌, ◌<◌, ◌≤◌, ◌^◌, false, List, length, get_or, sym, ◌∙◌, ap, arith, w64, add-zero, zero-add}
use Rattle.std.specs.Prelude.{◌==◌}
use Rattle.std.specs.Int.{bit_at, trailing_zeros}
use Rattle.std.proofs.lemmas.Bool.{cases_lt}
use Rattle.std.proofs.Math.Nat.{mod-lt, div-le_self}
use Rattle.std.proofs.lemmas.Bool.Decides.{nat_tests}
use Rattle.std.proofs.lemmas.Nat.{div-add-mod', pow_pos}
use Rattle.std.proofs.lemmas.Nat.Bits.{bit_at-zero, bit_at_above, bit_at_cat_high, bit_at-trailing_zeros}
use Rattle.node_set.specs.Ascending.{has}
use Rattle.node_set.specs.Nodes.{set_bits}
use Rattle.node_set.specs.Scan.{IsNext}
use Rattle.node_set.proofs.Words.{bits_of_word, is_set_past, has-set_bits}

bit_at_shifted : (n s j : ℕ) → bit_at (n / 2 ^ s) j ≡ bit_at n (s + j)
bit_at_shifted n s j =
    let back : (s + j) - s ≡ j = omega arith in
    sym (ap (λ m. bit_at m (s + j)) (sym (div-add-mod' n (2 ^ s)))
    ∙ bit_at_cat_high (n / 2 ^ s) s (n % 2 ^ s) (s + j) (mod-lt n (pow_pos s)) (omega arith)
    ∙ ap (bit_at (n / 2 ^ s)) back)

-- the bit of a number, by its word and its place there
pub bit_of : (words : List ℕ) {x : ℕ} (k i : ℕ) → x ≡ 64 * k + i → i < 64
    → has x (set_bits words) ≡ (bit_at (get_or words k 0) i == 1)
bit_of words {x} k i is below = has-set_bits words x ∙ bits_of_word words k i is below

-- the word w of number k has its first bit from place s on at place s + t
module _ (words : List ℕ) (k s t w : ℕ) (is : w ≡ get_or words k 0) (small : w < 2 ^ 64) where
  place_fits : bit_at w (s + t) ≡ 1 → s + t < 64
  place_fits one = grind (arith, bit_at_above w 64 (s + t) small)

  next_in_word : bit_at w (s + t) ≡ 1 → ((i : ℕ) → i < t → bit_at w (s + i) ≡ 0)
      → IsNext (set_bits words) (64 * k + s) (64 * k + s + t)
  next_in_word one none =
      let fits = place_fits one in
      record {
        reached = omega arith;
        member = bit_of words k (s + t) (omega arith) fits ∙ grind (arith, nat_tests, is, one);
        first = λ x low high.
            let at : x ≡ 64 * k + (s + (x - (64 * k + s))) = omega arith in
            let zero = none (x - (64 * k + s)) (omega arith) in
            bit_of words k (s + (x - (64 * k + s))) at (omega (arith, fits)) ∙ grind (arith, nat_tests, is, zero);
      }

-- the word of `from` has a bit from there on
pub found_here : (words : List ℕ) (from : ℕ) {w : ℕ} → w ≡ get_or words (from / 64) 0 → w < 2 ^ 64
    → 0 < w / 2 ^ (from % 64) → IsNext (set_bits words) from (from + trailing_zeros w64 (w / 2 ^ (from % 64)))
found_here words from {w} is small some =
    let s = from % 64 in
    let t = trailing_zeros w64 (w / 2 ^ s) in
    let tz = bit_at-trailing_zeros w64 (w / 2 ^ s) some (omega (arith, div-le_self w (2 ^ s))) in
    let whole : 64 * (from / 64) + s ≡ from = omega arith in
    rw whole at (next_in_word words (from / 64) s t w is small (rw (← bit_at_shifted w s t) tz.1)
    (λ i below. rw (← bit_at_shifted w s i) (tz.2 i below)))

pub none_here : (words : List ℕ) (from : ℕ) {w : ℕ} → w ≡ get_or words (from / 64) 0 → w / 2 ^ (from % 64) ≡ 0 → (x : ℕ)
    → from ≤ x → x < 64 * (from / 64 + 1) → has x (set_bits words) ≡ false
none_here words from {w} is none x low high =
    let at : x ≡ 64 * (from / 64) + (from % 64 + (x - from)) = omega arith in
    bit_of words (from / 64) (from % 64 + (x - from)) at (omega arith)
    ∙ grind (arith, nat_tests, is, none, bit_at_shifted w (from % 64) (x - from), bit_at-zero (x - from))

pub none_past : (words : List ℕ) (from x : ℕ) → length words ≤ from / 64 → from ≤ x → has x (set_bits words) ≡ false
none_past words from x over low = has-set_bits words x ∙ is_set_past words x (omega arith)

-- a later word has a bit, and none before has
pub found_later : (words : List ℕ) (from k : ℕ) {w : ℕ} → w ≡ get_or words k 0 → w < 2 ^ 64 → 0 < w → from ≤ 64 * k
    → ((x : ℕ) → from ≤ x → x < 64 * k → has x (set_bits words) ≡ false)
    → IsNext (set_bits words) from (64 * k + trailing_zeros w64 w)
found_later words from k {w} is small some reached before =
    let t = trailing_zeros w64 w in
    let tz = bit_at-trailing_zeros w64 w some small in
    let here : IsNext (set_bits words) (64 * k) (64 * k + t) = rw add-zero at
    (next_in_word words k 0 t w is small (rw zero-add tz.1) (λ i below. rw zero-add (tz.2 i below))) in
    record {
      reached = omega arith;
      member = here.member;
      first = λ x low high. grind (arith, before x low, here.first x);
    }

pub none_more : (words : List ℕ) (from k : ℕ) {w : ℕ} → w ≡ get_or words k 0 → w ≡ 0
    → ((x : ℕ) → from ≤ x → x < 64 * k → has x (set_bits words) ≡ false) → (x : ℕ) → from ≤ x → x < 64 * (k + 1)
    → has x (set_bits words) ≡ false
none_more words from k {w} is none before x low high = elim (cases_lt x (64 * k)) [
  | inl early ↦ before x low early
  | inr late ↦
      let at : x ≡ 64 * k + (x - 64 * k) = omega arith in
      bit_of words k (x - 64 * k) at (omega arith)
      ∙ grind (arith, nat_tests, is, none, bit_at-zero (x - 64 * k))
]
