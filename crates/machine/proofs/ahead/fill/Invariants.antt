use Rattle.std.proofs.Common.{◌≡◌, ◌-◌, length}
use Rattle.std.specs.Prelude.{vec_capacity}
use Rattle.handset.specs.Condition.{GoesWith}
use Rattle.machine.specs.Owed.{IsAhead}
use Rattle.machine.proofs.ahead.fill.Given as goal

abbrev pub invariant-writes : goal.invariant-writes
invariant-writes l = record {
  goes : GoesWith l.plan l.handset;
  its : l.handset.sub ≡ l.fn.handset.sub;
  ahead : IsAhead l.plan l.cells.subs l.fn.handset l.handset l.fn.ahead l.ahead;
}

abbrev pub decreases-writes : goal.decreases-writes
decreases-writes l = vec_capacity l.ahead - length l.ahead.items
