use Rattle.std.proofs.Common.{◌≡◌, ◌≤◌, ◌*◌}
use Rattle.visit_log.specs.Numbers.{clusters_below}
use Rattle.visit_log.proofs.numbers.clusters_below.Given as goal

abbrev pub invariant-loop-i : goal.invariant-loop-i
invariant-loop-i l = record { count : l.count ≡ clusters_below l.plan l.i; few : l.count ≤ 1024 * l.i }
