use Rattle.std.proofs.Common.{◌≡◌, ◌*◌, length}
use Rattle.node_set.specs.Ascending.{sift}
use Rattle.node_set.specs.Nodes.{is_set}
use Rattle.node_set.proofs.set.NodeSet.count.Given as goal

abbrev pub invariant-loop-word : goal.invariant-loop-word
invariant-loop-word l = l.total ≡ length (sift (is_set l.word-items) 0 (64 * l.word-index))
