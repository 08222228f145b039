use Rattle.own_stretch.proofs.Filling.{IsFilled}
use Rattle.own_stretch.proofs.costs.farthest_of_level.Given as goal

abbrev pub invariant-loop-node : goal.invariant-loop-node
invariant-loop-node l = IsFilled l.plan l.level l.node l.far.items
