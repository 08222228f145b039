use Rattle.std.proofs.Common.{◌≡◌, ◌≤◌, take, map}
use Rattle.region_plan.specs.Measures.{most, degree_in}
use Rattle.region_plan.proofs.plan.Plan.of_levels.Given as goal

abbrev pub invariant-loop-i : goal.invariant-loop-i
invariant-loop-i l = record {
  most : l.degree ≡ most (take l.i (map degree_in l.levels));
  few : l.degree ≤ 1024;
}
