use Rattle.std.proofs.Common.{◌≡◌}
use Rattle.node_set.specs.Balls.{centres}
use Rattle.node_set.proofs.marks.fill_all.Given as goal

abbrev pub invariant-loop-v : goal.invariant-loop-v
invariant-loop-v l = l.set ≡ record { room = l.n; members = centres l.v }
