use Rattle.std.proofs.Common.{◌≡◌, ◌+◌, ◌≤◌, ◌<◌, ℕ}
use Rattle.std.specs.Prelude.{All, slice_index}
use Rattle.region_plan.specs.Spread.{IsExponent}
use Rattle.region_plan.proofs.spread.write_exponents.Given as goal

abbrev pub invariant-loop-v : goal.invariant-loop-v
invariant-loop-v l = record {
  few : All (λ e. e ≤ 30) l.fn.exponents → All (λ e. e ≤ 30) l.exponents;
  kept : (x : ℕ) → x < l.at → slice_index l.exponents x ≡ slice_index l.fn.exponents x;
  each : (v : ℕ) → v < l.v → IsExponent (slice_index l.row v) (slice_index l.exponents (l.at + v));
}
