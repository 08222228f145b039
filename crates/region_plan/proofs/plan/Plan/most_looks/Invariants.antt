use Rattle.std.proofs.Common.{◌≡◌, ◌*◌, ◌≤◌, length, take}
use Rattle.std.specs.List.{sum_by}
use Rattle.region_plan.specs.Plan.{readers_in}
use Rattle.region_plan.proofs.plan.Plan.most_looks.Given as goal

abbrev pub invariant-loop-i : goal.invariant-loop-i
invariant-loop-i l = record {
  sum : l.read ≡ sum_by (λ level. length (readers_in level l.from)) (take l.i l.self.levels);
  few : l.read ≤ 1024 * l.i;
}
