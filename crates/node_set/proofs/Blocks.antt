-- Blocks of words: what one block tells, and what the blocks tell together.
use Rattle.std.proofs.Common.{◌≡◌, inl, inr, ℕ, zero, suc, ◌+◌, ◌-◌, ◌<◌, ◌≤◌, ◌↔◌, Bool, IsTrue, List, [], ◌∷◌, length, take, drop, get_or, sym, ◌∙◌, arith, min, ◌^◌, w64}
use Rattle.std.specs.Prelude.{bit_or, bit_and, not, nat_eq}
use Rattle.std.specs.Int.{bit_at, trailing_zeros}
use Rattle.std.proofs.lemmas.Bool.{cases_lt}
use Rattle.std.proofs.lemmas.Nat.{le_or_l, le_or_r, and_le_l}
use Rattle.std.proofs.lemmas.Nat.Bits.{bit_at-zero, bit_at_and, bit_at-lt, bit_at-trailing_zeros}
use Rattle.std.proofs.lemmas.Bool.Decides.{nat_tests}
use Rattle.std.proofs.lemmas.Simd.{get_or-zip2, get_or-chunk, length-chunk, length-zip2, get_or-put_chunk_below, get_or-put_chunk_at, get_or-put_chunk_above, length-put_chunk}
use lib.Lanes.{fold_l, zip2, chunk, put_chunk}
use Rattle.node_set.specs.Lanes.{Meet, MeetWithin, AreWordsJoinedWithin}

-- ---- the bits of all lanes

fold_grows : (xs : List ℕ) (acc : ℕ) → acc ≤ fold_l bit_or acc xs
fold_grows [] acc = omega arith
fold_grows (x ∷ xs) acc = omega (arith, le_or_l acc x, fold_grows xs (bit_or acc x))

fold_has : (xs : List ℕ) (acc i : ℕ) → get_or xs i 0 ≤ fold_l bit_or acc xs
fold_has [] acc i = omega arith
fold_has (x ∷ xs) acc zero = omega (arith, le_or_r acc x, fold_grows xs (bit_or acc x))
fold_has (x ∷ xs) acc (suc i) = fold_has xs (bit_or acc x) i

-- where some bit is set, some lane has one
fold_from : (xs : List ℕ) → 0 < fold_l bit_or 0 xs → (i : ℕ) × (i < length xs) × (0 < get_or xs i 0)
fold_from [] some = absurd (omega arith)
fold_from (x ∷ xs) some = elim (cases_lt 0 x) [
  | inl here ↦ (0, omega arith, here)
  | inr none ↦
      let zero_here : x ≡ 0 = omega arith in
      let rest : 0 < fold_l bit_or 0 xs = rw zero_here at some in
      let found = fold_from xs rest in
      (suc found.0, omega (arith, found.1), found.2)
]

-- what the four words of both from a place on have in common
abbrev common : List ℕ → List ℕ → ℕ → List ℕ
common a b at = zip2 bit_and (take 4 (drop at a)) (take 4 (drop at b))

block_place : (a b : List ℕ) (at i : ℕ) → at + 4 ≤ length a → at + 4 ≤ length b → i < 4 →
    get_or (common a b at) i 0 ≡ bit_and (get_or a (at + i) 0) (get_or b (at + i) 0)
block_place a b at i fits_a fits_b h = rw (
  get_or-zip2 bit_and (chunk at 4 a) (chunk at 4 b) i 0 0 0 (omega (arith, length-chunk at 4 a fits_a))
      (omega (arith, length-chunk at 4 b fits_b)),
  get_or-chunk at 4 a i 0 h,
  get_or-chunk at 4 b i 0 h,
)

block_found : (a b : List ℕ) (at : ℕ) → at + 4 ≤ length a → at + 4 ≤ length b
    → 0 < fold_l bit_or 0 (common a b at) → MeetWithin a b at (at + 4)
block_found a b at fits_a fits_b some =
    let found = fold_from (common a b at) some in
    let near : found.0 < 4 = omega (
      arith,
      found.1,
      length-zip2 bit_and (chunk at 4 a) (chunk at 4 b)
          (length-chunk at 4 a fits_a ∙ sym (length-chunk at 4 b fits_b)),
      length-chunk at 4 a fits_a,
    ) in
    (at + found.0, omega arith, omega arith, rw (block_place a b at found.0 fits_a fits_b near) at found.2)

block_some : (a b : List ℕ) (at : ℕ) → at + 4 ≤ length a → at + 4 ≤ length b → MeetWithin a b at (at + 4)
    → 0 < fold_l bit_or 0 (common a b at)
block_some a b at fits_a fits_b place =
    let e : at + (place.0 - at) ≡ place.0 = omega (arith, place.1) in
    let here = rw e at (block_place a b at (place.0 - at) fits_a fits_b (omega (arith, place.1, place.2))) in
    omega (arith, here, place.3, fold_has (common a b at) 0 (place.0 - at))

is_some : (n : ℕ) → IsTrue (not (nat_eq n 0)) ↔ (0 < n)
is_some n = (λ h. grind (arith, nat_tests), λ h. grind (arith, nat_tests))

pub block_meet : (a b : List ℕ) (at : ℕ) → at + 4 ≤ length a → at + 4 ≤ length b →
    IsTrue (not (nat_eq (fold_l bit_or 0 (common a b at)) 0)) ↔ MeetWithin a b at (at + 4)
block_meet a b at fits_a fits_b =
    grind (arith, is_some, block_found, block_some)

-- ---- a block absorbed

module _ (a b : List ℕ) (at : ℕ) (fits_a : at + 4 ≤ length a) (fits_b : at + 4 ≤ length b) where
  abbrev either : List ℕ
  either = zip2 bit_or (take 4 (drop at a)) (take 4 (drop at b))

  lanes : length either ≡ 4
  lanes = grind (arith, nat_tests, length-chunk at 4 a fits_a, length-chunk at 4 b fits_b)

  placed : (i : ℕ) → i < 4 → get_or (put_chunk at a either) (at + i) 0 ≡ bit_or (get_or a (at + i) 0)
      (get_or b (at + i) 0)
  placed i h = rw (
    get_or-put_chunk_at at a either i 0 (omega (arith, lanes)) (omega (arith, lanes)),
    get_or-zip2 bit_or (chunk at 4 a) (chunk at 4 b) i 0 0 0 (omega (arith, length-chunk at 4 a fits_a))
        (omega (arith, length-chunk at 4 b fits_b)),
    get_or-chunk at 4 a i 0 h,
    get_or-chunk at 4 b i 0 h,
  )

  pub block_joined : AreWordsJoinedWithin a b (put_chunk at a either) at (at + 4)
  block_joined = record {
    enough = length-put_chunk at a either;
    joined = λ k low high.
        grind (arith, nat_tests, placed (k - at) (omega arith));
    before = λ k low. get_or-put_chunk_below at a either k 0 low;
    after = λ k high. get_or-put_chunk_above at a either k 0 (omega (arith, lanes));
  }

-- ---- all blocks, and what is left behind the last

-- where a word of both has common bits, one of the first 64 is set in both
shared_bit : (x y : ℕ) → x < 2 ^ 64 → 0 < bit_and x y → (i : ℕ) × (i < 64) × (bit_at x i ≡ 1) × (bit_at y i ≡ 1)
shared_bit x y small some =
    let t = trailing_zeros w64 (bit_and x y) in
    let found = bit_at-trailing_zeros w64 (bit_and x y) (omega arith) (omega (arith, and_le_l x y)) in
    let one : min (bit_at x t) (bit_at y t) ≡ 1 = sym (bit_at_and x y t) ∙ found.1 in
    (t, found.0, omega (arith, one, bit_at-lt x t, bit_at-lt y t), omega (arith, one, bit_at-lt x t, bit_at-lt y t))

common_bit : (x y i : ℕ) → bit_at x i ≡ 1 → bit_at y i ≡ 1 → 0 < bit_and x y
common_bit x y i here there = grind (arith, bit_at_and x y i, bit_at-zero i)

pub all_meet : (a b : List ℕ) (from : ℕ) → ((k : ℕ) → get_or a k 0 < 2 ^ 64)
    → ((k : ℕ) → k < from → bit_and (get_or a k 0) (get_or b k 0) ≡ 0) → {result : Bool}
    → IsTrue result ↔ MeetWithin a b from (length a) → IsTrue result ↔ Meet a b
all_meet a b from small none rest = grind (arith, shared_bit, common_bit, cases_lt)

-- a block that meets
pub some_meet : (a b : List ℕ) (at to : ℕ) → ((k : ℕ) → get_or a k 0 < 2 ^ 64) → to ≤ length a → MeetWithin a b at to
    → Meet a b
some_meet a b at to small fits place =
    grind (arith, shared_bit)
