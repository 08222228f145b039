-- Draws from a generator: Lcg64Xsh32 of the crate rand_pcg on stream 54. A draw below m is the
-- generator's next word modulo m. Key law: `example_draws` computes the first words of a start.
use Rattle.std.specs.Prelude.{ℕ, zero, suc, ◌+◌, ◌%◌, List, [], ◌∷◌}
use Rattle.rand_pcg.specs.Lcg.{Lcg, increment_of, started}
use Rattle.rand_pcg.specs.Pcg.{multiplier_64, pcg32}

-- what was drawn, and the generator behind it
pub record Drawn (A : Type 0) : Type 0 where
  pub value : A
  pub left : Lcg

-- the generator of the draws that start here
unfoldable pub generator_of : ℕ → Lcg
generator_of start = started 64 multiplier_64 start (increment_of 64 54)

-- a draw below m
unfoldable pub draw : ℕ → Lcg → Drawn ℕ
draw m generator = record { value = (pcg32 generator).0 % m; left = (pcg32 generator).1 }

-- so many items, each drawn for its number: the first one's number is `from`
abbrev pub draw_list : {A : Type 0} → (ℕ → Lcg → Drawn A) → ℕ → ℕ → Lcg → Drawn (List A)
draw_list item from zero generator = record { value = []; left = generator }
draw_list item from (suc count) generator = record {
  value = (item from generator).value
      ∷ (draw_list item (from + 1) count (item from generator).left).value;
  left = (draw_list item (from + 1) count (item from generator).left).left;
}

-- so many draws below m
abbrev pub draws_below : ℕ → ℕ → Lcg → Drawn (List ℕ)
draws_below m count generator = draw_list (λ number. draw m) 0 count generator
