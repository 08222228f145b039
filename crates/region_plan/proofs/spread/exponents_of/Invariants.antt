use Rattle.std.proofs.Common.{◌≡◌, ◌≤◌, ◌*◌, length}
use Rattle.std.specs.Prelude.{All}
use Rattle.region_plan.specs.Spread.{AreExponentsTo}
use Rattle.region_plan.proofs.spread.exponents_of.Given as goal

abbrev pub invariant-loop-u : goal.invariant-loop-u
invariant-loop-u l = record {
  count : length l.exponents.items ≡ l.distances.nodes * l.distances.nodes;
  few : All (λ e. e ≤ 30) l.exponents.items;
  each : AreExponentsTo l.distances l.exponents.items l.u;
}
