use Rattle.node_set.proofs.Limiting.{within_bits}
use Rattle.node_set.proofs.set.NodeSet.within.Goals as goal

pub returns-clause-members : goal.returns-clause-members
returns-clause-members c = within_bits c.in_ok-words.ensures
