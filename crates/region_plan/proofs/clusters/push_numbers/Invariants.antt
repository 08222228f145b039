use Rattle.std.proofs.Common.{◌≡◌, ◌++◌}
use Rattle.node_set.specs.Balls.{centres}
use Rattle.region_plan.proofs.clusters.push_numbers.Given as goal

abbrev pub invariant-loop-number : goal.invariant-loop-number
invariant-loop-number l = l.list.items ≡ l.fn.list.items ++ centres l.number
