use Rattle.std.proofs.Common.{◌≡◌, ◌<◌, ℕ, true, false, get_or, length}
use Rattle.std.specs.Prelude.{slice_index}
use Rattle.region_plan.proofs.spread.exponents_in_use.Given as goal

abbrev pub invariant-loop-exponent : goal.invariant-loop-exponent
invariant-loop-exponent l = record {
  count : length l.marks.items ≡ 31;
  marked : (x : ℕ) → x < l.exponent-index
      → get_or l.marks.items (slice_index l.exponents x) false ≡ true;
}
