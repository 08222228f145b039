-- A census as bits.
use Rattle.std.proofs.Common.{◌≡◌, ℕ, ◌+◌, ◌*◌, ◌%◌, ◌^◌, ◌<◌, bit_or, Bool, true, false, [], ◌∷◌, sym, ap, ◌∙◌, arith, w64}
use Rattle.std.specs.Prelude.{◌||◌, if◌then◌else◌}
use Rattle.std.specs.Int.{bit_at}
use Rattle.std.proofs.lemmas.Bool.Decides.{nat_tests}
use Rattle.std.proofs.lemmas.Nat.Bits.{bit_at_set_same, bit_at_set_other}
use Rattle.node_set.specs.Ascending.{has, sift}
use Rattle.node_set.specs.SetLaws.{has-append, passing_skips, passing_takes}

abbrev pub AreBits : (ℕ → Bool) → ℕ → ℕ → Type 0
AreBits f who limit = (s : ℕ) → bit_at who s ≡ (if has s (sift f 0 limit) then 1 else 0)

pub miss_bit : (f : ℕ → Bool) (who sub : ℕ) → f sub ≡ false → AreBits f who sub → AreBits f who (sub + 1)
miss_bit f who sub off all s = all s ∙ ap {B = ℕ} (λ l. if has s l then 1 else 0) (sym (passing_skips f sub off))

pub hit_bit : (f : ℕ → Bool) (who : ℕ) {new : ℕ} (sub : ℕ) → sub < 64 → f sub ≡ true
    → new ≡ bit_or who (1 * 2 ^ sub % 2 ^ 64) → AreBits f who sub → AreBits f new (sub + 1)
hit_bit f who {new} sub small on is all s =
    let both : has s (sift f 0 (sub + 1)) ≡ (has s (sift f 0 sub) || has s (sub ∷ [])) =
    ap (has s) (passing_takes f sub on) ∙ has-append s (sift f 0 sub) (sub ∷ []) in
    let same = bit_at_set_same w64 who sub small in
    let other = bit_at_set_other w64 who sub small s in
    let was = all s in
    grind (arith, nat_tests)
