use Rattle.std.proofs.Common.{◌≡◌, length}
use Rattle.node_set.specs.Ascending.{has, sift}
use Rattle.node_set.specs.Balls.{ball, sets}
use Rattle.node_set.proofs.turning.row_of.Given as goal

abbrev pub invariant-loop-u : goal.invariant-loop-u
invariant-loop-u l = l.row ≡ record {
  room = length l.balls;
  members = sift (λ u. has l.node (ball (sets l.balls) u))
      0 l.u;
}
