-- Numbers as pairs of digits.
use Rattle.std.proofs.Common.{◌≡◌, inl, inr, ℕ, zero, suc, ◌+◌, ◌-◌, ◌*◌, ◌/◌, ◌%◌, ◌^◌, ◌<◌, ◌≤◌, Bool, true, ◌&&◌, T, eqb, eqb→eq, eq-zero-or-pos, List, ◌++◌, get_or, append_assoc, ap, sym, ◌∙◌, arith}
use Rattle.itoa.proofs.Decimal.{decimal_four, decimal_pair}
use Rattle.std.specs.Fmt.{decimal}
use lib.Ieee.Fits.{and_l, and_r}
use Rattle.text_line.specs.declared.digits.TheConstants.{PAIRS}
use Rattle.text_line.specs.Shorts.{pair}

-- the table has the digits of each number
abbrev are_pairs : ℕ → Bool
are_pairs zero = true
are_pairs (suc p) =
    (eqb (get_or PAIRS (2 * p) 0) (48 + p / 10) && eqb (get_or PAIRS (2 * p + 1) 0) (48 + p % 10)) && are_pairs p

below : (n p : ℕ) → T (are_pairs n) → p < n
    → (get_or PAIRS (2 * p) 0 ≡ 48 + p / 10) × (get_or PAIRS (2 * p + 1) 0 ≡ 48 + p % 10)
below zero p t h = absurd (omega arith)
below (suc n) p t h =
    elim (eq-zero-or-pos (n - p)) [
      | inl z ↦
          let e : p ≡ n = omega arith in
          let a = and_l _ (are_pairs n) t in
          rw e (eqb→eq _ _ (and_l _ _ a), eqb→eq _ _ (and_r _ _ a))
      | inr g ↦ below n p (and_r _ (are_pairs n) t) (omega arith)
    ]

pub pair-at : (p : ℕ) → p < 100 → (get_or PAIRS (2 * p) 0 ≡ 48 + p / 10) × (get_or PAIRS (2 * p + 1) 0 ≡ 48 + p % 10)
pair-at p h = below 100 p tt h

-- a line, a number's first digits, and its last two
pub line-pair : (line before now : List ℕ) (n : ℕ) → 100 ≤ n → n < 2 ^ 64 → before ≡ line ++ decimal (n / 100)
    → now ≡ before ++ pair (n % 100) → now ≡ line ++ decimal n
line-pair line before now n low high others is =
    is ∙ ap (λ (ds : List ℕ). ds ++ pair (n % 100)) others
    ∙ append_assoc line (decimal (n / 100)) (pair (n % 100))
    ∙ ap (λ (ds : List ℕ). line ++ ds) (sym (decimal_pair n low high))

-- and its last four
pub line-four : (line before middle now : List ℕ) (n : ℕ) → 10000 ≤ n → n < 2 ^ 64
    → before ≡ line ++ decimal (n / 10000) → middle ≡ before ++ pair (n % 10000 / 100)
    → now ≡ middle ++ pair (n % 10000 % 100) → now ≡ line ++ decimal n
line-four line before middle now n low high first others is =
    let third = pair (n % 10000 / 100) in
    let fourth = pair (n % 10000 % 100) in
    is ∙ ap (λ (ds : List ℕ). ds ++ fourth) (others ∙ ap (λ (ds : List ℕ). ds ++ third) first)
    ∙ append_assoc (line ++ decimal (n / 10000)) third fourth
    ∙ append_assoc line (decimal (n / 10000)) (third ++ fourth)
    ∙ ap (λ (ds : List ℕ). line ++ ds) (sym (decimal_four n low high))
