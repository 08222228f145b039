use Rattle.std.proofs.lemmas.Grind.{common_steps}
use Rattle.std.proofs.Common.{arith, subst}
use Rattle.net_graph.specs.Walks.{among}
use Rattle.net_graph.specs.Network.{Network}
use Rattle.net_graph.specs.Trees.{AreParents}
use Rattle.net_graph.proofs.Parenting.{are_parents}
use Rattle.net_graph.proofs.graph.Graph.tree_from.Goals as goal

pub returns-clause-parents : goal.returns-clause-parents
returns-clause-parents c =
    subst (λ (network : Network). AreParents network c.args.root c.in_ok-weight.weight.items
    c.in_ok-parent.parent.items) c.self.view_is
    (are_parents c.self.inside.neighbours c.self.invariant.limits (among c.args.allowed.now) c.args.root
    c.in_ok-weight.weight.items c.in_ok-parent.parent.items c.in_ok-weight.ensures
    (rw c.deref.ensures.value at c.in_ok-parent.ensures))

pub returns-clause-weights : goal.returns-clause-weights
returns-clause-weights c = grind (arith, common_steps)
