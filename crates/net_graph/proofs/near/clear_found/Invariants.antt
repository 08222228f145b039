use Rattle.std.proofs.Common.{drop, length}
use Rattle.net_graph.proofs.Nearing.{IsCleared}
use Rattle.net_graph.proofs.near.clear_found.Given as goal

abbrev pub invariant-loop-node : goal.invariant-loop-node
invariant-loop-node l = IsCleared (length l.initial.weights) (drop l.node-index l.found) l.unsettled l.weights
