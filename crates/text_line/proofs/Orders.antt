-- The next line of actors.
use Rattle.std.proofs.Common.{◌≡◌, ◌⊎◌, inl, inr, ℕ, ◌<◌, ◌≤◌, List, [], ◌∷◌, map, length, take, drop, sym, ap, ◌∙◌, arith}
use Rattle.std.proofs.lemmas.List.{take_all}
use Rattle.std.proofs.Math.ListN.{drop_of_length-le}
use Rattle.text_line.specs.OrderLines.{order_line, order_lines}
use Rattle.text_line.specs.OrderLaws.{pieces-cut}

take-is : (m : ℕ) (numbers : List ℕ) → m ≤ 64 → (m ≡ 64) ⊎ (m ≡ length numbers) → take m numbers ≡ take 64 numbers
take-is m numbers few (inl e) = ap (λ k. take k numbers) e
take-is m numbers few (inr e) = take_all m numbers (omega (arith, e))
    ∙ sym (take_all 64 numbers (omega (arith, e, few)))

drop-is : (m : ℕ) (numbers : List ℕ) → m ≤ 64 → (m ≡ 64) ⊎ (m ≡ length numbers) → drop m numbers ≡ drop 64 numbers
drop-is m numbers few (inl e) = ap (λ k. drop k numbers) e
drop-is m numbers few (inr e) =
    let one : drop m numbers ≡ [] = drop_of_length-le numbers {i = m} (omega (arith, e)) in
    let two : drop 64 numbers ≡ [] = drop_of_length-le numbers {i = 64} (omega (arith, e, few)) in
    one ∙ sym two

-- the next line is that of the next actors
pub order-step : (actors now later : List ℕ) (line : List ℕ) (m : ℕ) → 0 < length actors → line ≡ order_line now
    → m ≤ 64 → (m ≡ 64) ⊎ (m ≡ length actors) → now ≡ take m actors → later ≡ drop m actors
    → order_lines actors ≡ line ∷ order_lines later
order-step actors now later line m some written few count front back =
    let first : now ≡ take 64 actors = front ∙ take-is m actors few count in
    let others : later ≡ drop 64 actors = back ∙ drop-is m actors few count in
    ap (λ (ps : List (List ℕ)). map order_line ps) (pieces-cut actors some)
    ∙ ap (λ (x : List ℕ). order_line x ∷ order_lines (drop 64 actors)) (sym first)
    ∙ ap (λ (x : List ℕ). x ∷ order_lines (drop 64 actors)) (sym written)
    ∙ ap (λ (x : List ℕ). line ∷ order_lines x) (sym others)
