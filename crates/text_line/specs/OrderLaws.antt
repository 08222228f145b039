-- How a list of numbers is cut into pieces of 64. Key law: `pieces-cut`.
use Rattle.std.proofs.Common.{◌≡◌, ℕ, zero, suc, ◌<◌, ◌≤◌, List, [], ◌∷◌, length, take, drop, refl, ap, arith, length-drop}
use Rattle.text_line.specs.OrderLines.{pieces, pieces_within}

-- more room than there are numbers changes nothing
enough : (a b : ℕ) (numbers : List ℕ) → length numbers ≤ a → length numbers ≤ b
    → pieces_within a numbers ≡ pieces_within b numbers
enough zero zero numbers ha hb = refl
enough zero (suc b) [] ha hb = refl
enough zero (suc b) (n ∷ numbers) ha hb = absurd (omega arith)
enough (suc a) zero [] ha hb = refl
enough (suc a) zero (n ∷ numbers) ha hb = absurd (omega arith)
enough (suc a) (suc b) [] ha hb = refl
enough (suc a) (suc b) (n ∷ numbers) ha hb =
    let rest = length-drop 64 (n ∷ numbers) in
    ap (λ l. take 64 (n ∷ numbers) ∷ l) (enough a b (drop 64 (n ∷ numbers))
    (omega (arith, rest, ha)) (omega (arith, rest, hb)))

-- the first piece, and those behind it
pub pieces-cut : (numbers : List ℕ) → 0 < length numbers
    → pieces numbers ≡ take 64 numbers ∷ pieces (drop 64 numbers)
pieces-cut [] h = absurd (omega arith)
pieces-cut (n ∷ numbers) h =
    let rest = length-drop 64 (n ∷ numbers) in
    ap (λ l. take 64 (n ∷ numbers) ∷ l) (enough (length numbers) (length (drop 64 (n ∷ numbers)))
    (drop 64 (n ∷ numbers)) (omega (arith, rest)) (omega arith))
