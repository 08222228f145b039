use Rattle.std.proofs.Common.{◌+◌, ◌*◌, ◌≤◌}
use Rattle.visit_log.proofs.routes.count_readers.Given as goal

abbrev pub invariant-loop-level : goal.invariant-loop-level
invariant-loop-level l = l.count ≤ l.level * 1048576

abbrev pub invariant-loop-node : goal.invariant-loop-node
invariant-loop-node l = l.count ≤ l.level * 1048576 + l.node * 1024
