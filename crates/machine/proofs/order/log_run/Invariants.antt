use Rattle.std.proofs.Common.{◌≡◌, ◌++◌}
use Rattle.std.specs.Prelude.{replicate, vec_capacity}
use Rattle.machine.proofs.order.log_run.Given as goal

abbrev pub invariant-loop : goal.invariant-loop
invariant-loop l = record {
  items : l.log.items ≡ l.initial.log.items ++ replicate l.counter l.actor;
  capacity : vec_capacity l.log ≡ vec_capacity l.initial.log;
}
