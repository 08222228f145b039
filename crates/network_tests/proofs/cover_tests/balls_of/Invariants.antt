use Rattle.std.proofs.Common.{◌≡◌, length}
use Rattle.std.specs.Prelude.{All}
use Rattle.node_set.specs.Nodes.{Nodes}
use Rattle.node_set.specs.Balls.{sets, AreCentred}
use Rattle.network_tests.proofs.cover_tests.balls_of.Given as goal

abbrev pub invariant-loop-v : goal.invariant-loop-v
invariant-loop-v l = record {
  count : length l.balls.items ≡ l.v;
  rooms : All (λ (b : Nodes). b.room ≡ l.n) l.balls.items;
  centred : AreCentred (sets l.balls.items);
}
