use Rattle.distances.specs.Remaining.{IsLeftBelow}
use Rattle.distances.proofs.elimination.least_left.Given as goal

abbrev pub invariant-loop-node : goal.invariant-loop-node
invariant-loop-node l = IsLeftBelow l.node l.left l.best
