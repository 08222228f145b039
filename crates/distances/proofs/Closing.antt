-- Moving the rows of a table together.
use Rattle.std.proofs.Common.{rules, ◌≡◌, ℕ, ◌+◌, ◌-◌, ◌*◌, ◌<◌, ◌≤◌, List, length, get_or, take, ◌∙◌, ap, inl, inr, arith}
use Rattle.std.proofs.lemmas.List.{get_or-take, length-take}
use Rattle.std.proofs.lemmas.Nat.{mul-add-lt, mul-le, row_fits}
use Rattle.std.proofs.lemmas.Bool.{cases_lt}
use Rattle.std.specs.List.{CopiedTo, SameBelow, SameFrom}
use Rattle.distances.specs.Lowering.{cell_at}
use Rattle.distances.specs.Rows.{AreClosed}

-- the first u rows are side by side, and the others are where they were
pub record IsClosing (n width u : ℕ) (rows table : List ℕ) : Type 0 where
  pub count : length table ≡ n * width
  pub done : (a v : ℕ) → a < u → v < n → cell_at n table a v ≡ cell_at width rows a v
  pub rest : (a v : ℕ) → u ≤ a → a < n → v < n → cell_at width table a v ≡ cell_at width rows a v

-- one more row
pub closing_step : {n width u size : ℕ} {rows old new : List ℕ} → n ≤ width → u < n → size ≡ n
    → IsClosing n width u rows old → length new ≡ length old → CopiedTo old new (u * width) (u * n) size
    → SameBelow old new (u * n) → SameFrom old new (u * n + size) → IsClosing n width (u + 1) rows new
closing_step {n} {width} {u} {rows} {old} {new} wide u_below is so_far count copied below from = record {
  count = count ∙ so_far.count;
  done = λ a v a_below v_below. elim (cases_lt a u) [
    | inl earlier ↦
        below (a * n + v) 0 (omega (arith, row_fits a n u n earlier (omega arith)))
        ∙ so_far.done a v earlier v_below
    | inr last ↦
        let here : a ≡ u = omega arith in
        let at : u * n + v - u * n ≡ v = omega arith in
        rw here
        (copied (u * n + v) 0 (omega arith) (omega (arith, is))
        ∙ ap (λ i. get_or old (u * width + i) 0) at
        ∙ so_far.rest u v (omega arith) u_below v_below)
  ];
  rest = grind (arith, row_fits, mul-le u n u width (omega arith) wide);
}

-- what is behind the rows is left out
pub closing_ends : {n width u : ℕ} {rows table closed : List ℕ} → n ≤ width → n ≤ u → IsClosing n width u rows table
    → closed ≡ take (n * n) table → AreClosed n width rows closed
closing_ends {n} {width} {rows} {table} wide all so_far is =
    search (rules, length-take, mul-le, get_or-take, mul-add-lt)
