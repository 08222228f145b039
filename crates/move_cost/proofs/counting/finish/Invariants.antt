use Rattle.std.proofs.Common.{◌≡◌}
use Rattle.handset.specs.Condition.{GoesWith}
use Rattle.move_cost.specs.Counting.{HasRoom}
use Rattle.move_cost.proofs.Following.{Follows, count_left}
use Rattle.move_cost.proofs.counting.finish.Given as goal

abbrev pub invariant-writes : goal.invariant-writes
invariant-writes l = record {
  goes : GoesWith l.plan l.handset;
  its : l.handset.sub ≡ l.fn.handset.sub;
  room : HasRoom l.plan l.handset l.line;
  follows : Follows l.plan l.node l.fn.handset l.fn.line l.handset l.line;
}

abbrev pub decreases-writes : goal.decreases-writes
decreases-writes l = count_left l.plan l.handset
