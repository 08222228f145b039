-- Full lines of one actor: the test that there is no other, and the fields that are kept of it.
use Rattle.std.proofs.Common.{◌≡◌, ℕ, ◌+◌, ◌≤◌, ◌%◌, ◌^◌, ◌-◌, Bool, false, true, cond, eqb, not, List, ◌++◌, length, take, drop, get_or, map, replicate, sym, ◌∙◌, ap, arith, w32}
use Rattle.std.proofs.lemmas.List.{ext_get_or, length-replicate, drop-take}
use Rattle.std.proofs.lemmas.Simd.{bitmask_splat, get_or-replicate, length-chunk, none_from_empty_mask}
use Rattle.std.proofs.lemmas.Bool.{eqb-true}
use Rattle.std.proofs.lemmas.Bool.Decides.{nat_tests}
use Rattle.std.proofs.Math.Seq.{drop-append_seam}
use lib.Lanes.{chunk, mask_l, top, zip2}

-- another number
abbrev pub is_other : ℕ → ℕ → Bool
is_other y x = not (eqb x y)

same_number : (x y : ℕ) → is_other y x ≡ false → x ≡ y
same_number x y e = grind (arith, nat_tests)

-- where the mask of the others is empty, all are the one
pub all_same : (xs : List ℕ) (y : ℕ) → length xs ≡ 64
    → eqb (mask_l (map (top 31) (zip2 (λ a b. cond (not (eqb a b)) 4294967295 0) (take 64 xs)
    (replicate 64 y))) % 2 ^ 64) 0 ≡ true
    → xs ≡ replicate 64 y
all_same xs y long none =
    let room : 0 + 64 ≤ length xs = omega (arith, long) in
    let empty : mask_l (map (is_other y) (chunk 0 64 xs)) ≡ 0 =
    sym (bitmask_splat w32 (λ a b. not (eqb a b)) (chunk 0 64 xs) 64 y (length-chunk 0 64 xs room) (omega arith))
    ∙ eqb-true _ _ none in
    ext_get_or 0 xs (replicate 64 y) (long ∙ sym (length-replicate 64 y)) (λ i below.
    same_number (get_or xs i 0) y
    (none_from_empty_mask (is_other y) xs 0 64 0 room empty i (omega arith) (omega (arith, long, below)))
    ∙ sym (get_or-replicate 64 i y 0 (omega (arith, long, below))))

-- what stands behind a line
pub behind_line : (line text bytes : List ℕ) (at end : ℕ) → length line ≡ at → at ≤ end → take end bytes ≡ line ++ text
    → take (end - at) (drop at bytes) ≡ text
behind_line line text bytes at end long within is =
    sym (drop-take at (end - at) bytes)
    ∙ ap (λ i. drop at (take i bytes)) (let e : at + (end - at) ≡ end = omega (arith, within) in e)
    ∙ ap (λ (ws : List ℕ). drop at ws) is ∙ ap (λ i. drop i (line ++ text)) (sym long) ∙ drop-append_seam line text
