use Rattle.net_graph.specs.Parents.{AreLeastNeighbours}
use Rattle.net_graph.proofs.parents.parents_in.Given as goal

abbrev pub invariant-loop-node : goal.invariant-loop-node
invariant-loop-node l = AreLeastNeighbours l.neighbours.edges l.weights l.node l.parents.items
