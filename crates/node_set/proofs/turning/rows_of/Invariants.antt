use Rattle.std.proofs.Common.{◌≡◌, ℕ, ◌<◌, length}
use Rattle.std.specs.Prelude.{All}
use Rattle.node_set.specs.Nodes.{Nodes}
use Rattle.node_set.specs.Ascending.{has, sift}
use Rattle.node_set.specs.Balls.{ball, sets}
use Rattle.node_set.proofs.turning.rows_of.Given as goal

abbrev pub invariant-loop-v : goal.invariant-loop-v
invariant-loop-v l = record {
  count : length l.rows.items ≡ l.v;
  rooms : All (λ (b : Nodes). b.room ≡ length l.balls) l.rows.items;
  each : (v : ℕ) → v < l.v
      → ball (sets l.rows.items) v ≡ sift (λ u. has v (ball (sets l.balls) u)) 0 (length l.balls);
}
