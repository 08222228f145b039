use Rattle.std.proofs.Common.{◌≡◌, true, sym, subst, arith}
use Rattle.std.proofs.lemmas.List.{get_or_read}
use Rattle.node_set.specs.Ascending.{has}
use Rattle.cluster_tree.specs.Tree.{WeighedCluster}
use Rattle.cluster_tree.specs.PlaceLaws.{found_place, always_found}
use Rattle.cluster_tree.proofs.tree.ClusterTree.weight_of.Goals as goal

pub unreachable-requires : goal.unreachable-requires
unreachable-requires c =
    always_found c.self.inside.members.items c.args.v c.in-Err.field-0 c.self.invariant.ascending
    (subst (λ (cluster : WeighedCluster). has c.args.v cluster.members ≡ true) (sym c.self.view_is) c.requires)
    (rw c.deref.ensures.value at c.in-Err.ensures.position)

pub returns-clause-exact : goal.returns-clause-exact
returns-clause-exact c =
    let found = found_place c.self.inside.members.items c.self.inside.weights.items c.args.v c.in-Ok.place
    c.self.invariant.ascending
    c.self.invariant.count (rw c.deref.ensures.value at c.in-Ok.ensures.position) in
    grind (arith, get_or_read)
