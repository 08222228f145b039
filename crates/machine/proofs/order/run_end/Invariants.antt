use Rattle.std.proofs.Common.{◌≡◌, ◌-◌, ◌<◌, ◌++◌, drop}
use Rattle.std.specs.Prelude.{replicate, slice_index}
use Rattle.machine.proofs.order.run_end.Given as goal

abbrev pub invariant-loop-end : goal.invariant-loop-end
invariant-loop-end l = record {
  on : l.start < l.end;
  run : drop l.start l.order ≡ replicate (l.end - l.start) (slice_index l.order l.start) ++ drop l.end l.order;
}
