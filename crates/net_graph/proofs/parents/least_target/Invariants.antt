use Rattle.std.proofs.Common.{take}
use Rattle.net_graph.specs.Parents.{IsLeastTarget}
use Rattle.net_graph.proofs.parents.least_target.Given as goal

abbrev pub invariant-loop-arc : goal.invariant-loop-arc
invariant-loop-arc l = IsLeastTarget (take l.arc-index l.arcs) l.weights l.weight l.least
