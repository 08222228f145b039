use Rattle.std.proofs.Common.{arith, refl}
use Rattle.node_set.specs.SetLaws.{below-has}
use Rattle.cluster_tree.proofs.Joining.{members_below, joined_keep}
use Rattle.cluster_tree.proofs.Rounding.{round_keeps}
use Rattle.cluster_tree.proofs.inside.keeps_distances.Goals as goal

pub arcs_of-requires : goal.arcs_of-requires
arcs_of-requires c = grind (arith, below-has)

pub is_round-requires-clause-members : goal.is_round-requires-clause-members
is_round-requires-clause-members c = grind (arith, members_below)

pub are_joined-requires-clause-members : goal.are_joined-requires-clause-members
are_joined-requires-clause-members c = grind (arith, members_below)

pub returns-then-is_round : goal.returns-then-is_round
returns-then-is_round c = λ _.
    round_keeps c.args.graph.now c.graph_is_sound.ensures c.args.cluster.now.members c.args.leader c.requires.leader
    c.args.row.now c.requires.row
    (rw c.requires.members at (c.if-is_round.ensures refl))
    (rw c.requires.row.count
    (members_below c.args.cluster.now c.requires.sound c.args.graph.now.nodes c.requires.room))

pub returns : goal.returns
returns c = λ same.
    joined_keep c.args.graph.now c.args.cluster.now c.requires.sound c.requires.room c.args.leader
    c.requires.leader c.args.row.now c.requires.row
    (rw c.requires.members at (c.are_joined.ensures same))
