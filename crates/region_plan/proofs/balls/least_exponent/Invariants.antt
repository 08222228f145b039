use Rattle.std.proofs.Common.{ℕ, ◌<◌, ◌^◌}
use Rattle.region_plan.proofs.balls.least_exponent.Given as goal

abbrev pub invariant-loop-exponent : goal.invariant-loop-exponent
invariant-loop-exponent l = (i : ℕ) → i < l.exponent → 2 ^ i < l.number
