use Rattle.std.proofs.Common.{subst}
use Rattle.node_set.specs.Nodes.{Nodes, AreNodes}
use Rattle.node_set.proofs.Words.{are_nodes}
use Rattle.node_set.proofs.set.set_is_sound.Goals as goal

pub returns : goal.returns
returns c = subst (λ (s : Nodes). AreNodes s) c.set.view_is
    (are_nodes c.set.invariant)
