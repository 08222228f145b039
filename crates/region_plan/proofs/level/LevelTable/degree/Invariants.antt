use Rattle.std.proofs.Common.{◌≡◌, ◌≤◌, length, take, map}
use Rattle.region_plan.specs.Measures.{most}
use Rattle.region_plan.proofs.level.LevelTable.degree.Given as goal

abbrev pub invariant-loop-v : goal.invariant-loop-v
invariant-loop-v l = record {
  most : l.degree ≡ most (take l.v (map length l.self.readers));
  few : l.degree ≤ 1024;
}
