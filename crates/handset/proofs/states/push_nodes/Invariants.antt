use Rattle.std.proofs.Common.{◌≡◌, ◌++◌, false, get_or}
use Rattle.node_set.specs.Ascending.{sift}
use Rattle.handset.specs.Trails.{flags}
use Rattle.handset.proofs.states.push_nodes.Given as goal

abbrev pub invariant-loop-node : goal.invariant-loop-node
invariant-loop-node l =
    l.words.items ≡ l.fn.words.items ++ sift (λ node. get_or (flags l.trail) node false) 0 l.node
