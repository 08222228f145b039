use Rattle.std.proofs.Common.{◌≡◌}
use Rattle.network_tests.proofs.cover_tests.ball_of.Given as goal

abbrev pub invariant-loop-node : goal.invariant-loop-node
invariant-loop-node l = l.ball.room ≡ l.n
