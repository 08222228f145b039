-- How many bytes of a block come before one that may end a line.
use Rattle.std.proofs.Common.{◌≡◌, ℕ, ◌+◌, ◌<◌, ◌≤◌, ◌%◌, ◌^◌, Bool, true, false, cond, leb, not, List, length, get_or, map, replicate, sym, ◌∙◌, ap, arith, w8}
use Rattle.std.proofs.lemmas.Bool.Decides.{nat_tests}
use Rattle.std.proofs.lemmas.Simd.{bitmask_splat, length-chunk, none_from_empty_mask, run_in_chunk_fails, run_in_chunk_le, trailing_mask_l}
use Rattle.std.specs.List.{prefix_len}
use lib.Count.{count_trailing_zeros}
use lib.Lanes.{chunk, mask_l, top, zip2}
use Rattle.net_reader.specs.Steps.{is_inside}

-- a byte that may end a line, or is a control character below those
abbrev pub is_low : ℕ → Bool
is_low b = leb b 13

high-inside : (b : ℕ) → is_low b ≡ false → is_inside b ≡ true
high-inside b e = grind (arith, nat_tests)

pub marks : (piece : List ℕ) (at : ℕ) → at + 32 ≤ length piece
    → mask_l (map (top 7) (zip2 (λ a b. cond (leb a b) 255 0) (chunk at 32 piece) (replicate 32 13))) % 2 ^ 64
    ≡ mask_l (map is_low (chunk at 32 piece))
marks piece at room = bitmask_splat w8 leb (chunk at 32 piece) 32 13 (length-chunk at 32 piece room) (omega arith)

pub quiet-all : (piece : List ℕ) (at : ℕ) {m : ℕ} → at + 32 ≤ length piece → m ≡ mask_l (map is_low (chunk at 32 piece))
    → m ≡ 0 → (k : ℕ) → at ≤ k → k < at + 32 → is_inside (get_or piece k 0) ≡ true
quiet-all piece at room e none k low high =
    high-inside (get_or piece k 0) (none_from_empty_mask is_low piece at 32 0 room (sym e ∙ none) k low high)

counted : (piece : List ℕ) (at : ℕ) {m : ℕ} → at + 32 ≤ length piece → m ≡ mask_l (map is_low (chunk at 32 piece))
    → 0 < m → count_trailing_zeros 64 m ≡ prefix_len (λ b. not (is_low b)) (chunk at 32 piece)
counted piece at room e some =
    ap (λ n. count_trailing_zeros 64 n) e
    ∙ trailing_mask_l is_low 64 (chunk at 32 piece) (omega (arith, length-chunk at 32 piece room))
    (omega (arith, e, some))

pub quiet-few : (piece : List ℕ) (at : ℕ) {m : ℕ} → at + 32 ≤ length piece → m ≡ mask_l (map is_low (chunk at 32 piece))
    → 0 < m → count_trailing_zeros 64 m ≤ 32
quiet-few piece at {m} room e some =
    run_in_chunk_le is_low piece at 32 (count_trailing_zeros 64 m) 0 room (counted piece at room e some)

pub quiet-front : (piece : List ℕ) (at : ℕ) {m : ℕ} → at + 32 ≤ length piece
    → m ≡ mask_l (map is_low (chunk at 32 piece)) → 0 < m → (k : ℕ) → at ≤ k → k < at + count_trailing_zeros 64 m
    → is_inside (get_or piece k 0) ≡ true
quiet-front piece at {m} room e some k low high =
    high-inside (get_or piece k 0)
    (run_in_chunk_fails is_low piece at 32 (count_trailing_zeros 64 m) 0 room (counted piece at room e some) k low
    high)
