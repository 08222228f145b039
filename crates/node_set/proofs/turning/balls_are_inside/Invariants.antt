use Rattle.std.proofs.Common.{◌≡◌, ℕ, ◌<◌, true, length}
use Rattle.node_set.specs.Ascending.{has}
use Rattle.node_set.specs.Balls.{ball, sets}
use Rattle.node_set.proofs.turning.balls_are_inside.Given as goal

abbrev pub invariant-loop-u : goal.invariant-loop-u
invariant-loop-u l = (v x : ℕ) → v < l.u → has x (ball (sets l.balls) v) ≡ true → x < length l.balls
