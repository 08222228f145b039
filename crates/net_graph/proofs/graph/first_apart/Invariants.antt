use Rattle.std.proofs.Common.{◌≡◌, ℕ, ◌<◌, None}
use Rattle.net_graph.specs.Trees.{at_node}
use Rattle.net_graph.proofs.graph.first_apart.Given as goal

abbrev pub invariant-loop-node : goal.invariant-loop-node
invariant-loop-node l = (v : ℕ) → v < l.node → at_node l.weights v ≡ None → ⊥
