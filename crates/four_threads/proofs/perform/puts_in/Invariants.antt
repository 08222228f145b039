use Rattle.std.proofs.Common.{◌≤◌}
use Rattle.four_threads.proofs.perform.puts_in.Given as goal

abbrev pub invariant-loop-k : goal.invariant-loop-k
invariant-loop-k l = l.puts ≤ l.k
