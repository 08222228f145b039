use Rattle.net_graph.proofs.Parenting.{more_neighbours}
use Rattle.net_graph.proofs.parents.parents_in.Goals as goal

pub loop-node-preserved : goal.loop-node-preserved
loop-node-preserved c =
    more_neighbours c.arcs_of.ensures c.least_target.ensures c.loop-node.invariant c.in_ok-push.ensures.items
