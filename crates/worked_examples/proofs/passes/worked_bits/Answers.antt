use Rattle.std.proofs.Common.{◌≡◌, ◌==◌, ◌*◌, ◌^◌, ◌%◌, ◌<◌, ◌||◌, ℕ, zero, suc, false, ap, arith, refl, sym, ◌∙◌, ◌∷◌, []}
use Rattle.std.proofs.Math.Nat.{div-eq_of_lt}
use Rattle.std.proofs.lemmas.Bool.{ne_eqb}
use Rattle.std.specs.Int.{bit_at}
use Rattle.std.specs.Prelude.{if◌then◌else◌}
use Rattle.node_set.specs.Ascending.{has}
use Rattle.worked_examples.proofs.passes.worked_bits.Goals as goal

-- powers of two from the third on are higher
high : (i : ℕ) → 5 < 2 ^ suc (suc (suc i))
high zero = omega arith
high (suc i) =
    let last : ℕ = suc (suc (suc i)) in
    let double : 2 ^ suc last ≡ 2 * 2 ^ last = omega arith in
    omega (arith, double, high i)

beyond : (i : ℕ) → has (suc (suc (suc i))) (0 ∷ 2 ∷ []) ≡ false
beyond i =
    let first : (suc (suc (suc i)) == 0) ≡ false = ne_eqb (suc (suc (suc i))) 0 (λ e. omega (arith, e)) in
    let second : (suc (suc (suc i)) == 2) ≡ false = ne_eqb (suc (suc (suc i))) 2 (λ e. omega (arith, e)) in
    ap (λ b. b || ((suc (suc (suc i)) == 2) || false)) first ∙ ap (λ b. b || false) second

bits : (sub : ℕ) → bit_at 5 sub ≡ (if has sub (0 ∷ 2 ∷ []) then 1 else 0)
bits zero = refl
bits (suc zero) = refl
bits (suc (suc zero)) = refl
bits (suc (suc (suc i))) =
    ap (λ q. q % 2) (div-eq_of_lt (high i)) ∙ ap (λ b. if b then 1 else 0) (sym (beyond i))

pub returns : goal.returns
returns c = record { bits = bits; length_is = refl }
