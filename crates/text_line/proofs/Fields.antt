-- Short fields that are kept, and what is written over the bytes behind a line.
use Rattle.std.proofs.Common.{◌≡◌, ℕ, ◌+◌, ◌<◌, ◌≤◌, List, [], ◌∷◌, ◌++◌, length, get_or, set, take, drop, refl, sym, ◌∙◌, ap, subst, inl, inr, arith}
use Rattle.std.proofs.lemmas.List.{get_or_append_left, get_or_push, length-take, length_push, take-append-le}
use Rattle.std.proofs.Math.Seq.{set-append_seam, take-append-add, take-set-lt}
use Rattle.std.proofs.lemmas.Bool.{cases_lt}
use borrow.Rule.Slice.PartMut.{put_mid}
use Rattle.text_line.specs.Shorts.{AreShort, IsShort}

-- behind the first `at` bytes stand the first `count` of those that were written there
pub front_written : (bytes text : List ℕ) (at k count : ℕ) → at ≤ length bytes → count ≤ length text
    → take (at + count) (put_mid at k bytes text) ≡ take at bytes ++ take count text
front_written bytes text at k count within few =
    let front : length (take at bytes) ≡ at = omega (arith, length-take at bytes) in
    ap (λ i. take (i + count) (take at bytes ++ (text ++ drop k (drop at bytes)))) (sym front)
    ∙ take-append-add (take at bytes) (text ++ drop k (drop at bytes)) count
    ∙ ap (λ xs. take at bytes ++ xs) (take-append-le count text (drop k (drop at bytes)) few)

-- the blank of a field that was written, and another byte in its place
pub other_byte : (line bytes text : List ℕ) (at end byte : ℕ) → length line ≡ at → at < end
    → take end bytes ≡ line ++ 32 ∷ text → take end (set bytes at byte) ≡ line ++ byte ∷ text
other_byte line bytes text at end byte is below written =
    take-set-lt end bytes at byte below
    ∙ ap (λ xs. set xs at byte) written
    ∙ ap (λ i. set (line ++ 32 ∷ text) i byte) (sym is)
    ∙ set-append_seam line 32 text byte

-- one short field more
pub short_more : (shorts : List (List ℕ)) (short : List ℕ) → AreShort shorts → IsShort (length shorts) short
    → AreShort (shorts ++ short ∷ [])
short_more shorts short are is number below = elim (cases_lt number (length shorts)) [
  | inl less ↦ subst (λ s. IsShort number s) (sym (get_or_append_left shorts (short ∷ []) [] number less))
      (are number less)
  | inr over ↦
      let here : length shorts ≡ number = omega (arith, over, below, length_push shorts short) in
      subst (λ n. IsShort n (get_or (shorts ++ short ∷ []) n [])) here
      (subst (λ s. IsShort (length shorts) s) (sym (get_or_push shorts short [] (length shorts) refl)) is)
]
