use Rattle.std.proofs.Common.{refl, get_or, slice_index}
use Rattle.cluster_tree.proofs.Joining.{leader_joined, one_joined, all_joined}
use Rattle.cluster_tree.proofs.inside.are_joined.Goals as goal
use Rattle.cluster_tree.proofs.inside.are_joined.Goals.{else-member-leader-via-then-member-leader+else-not-has_nearer, else-member-leader-via-else-member-leader}

pub loop-member-preserved : goal.loop-member-preserved
loop-member-preserved c = elim c.else-member-leader.branch [
  | else-member-leader-via-then-member-leader+else-not-has_nearer w ↦
      one_joined c.args.graph.now c.args.cluster.now.members c.args.members.now c.args.leader c.args.row.now
      c.loop-member.member-index 0
      w.arcs_of.result.now (slice_index c.args.row.now (get_or c.args.members.now c.loop-member.member-index 0))
      c.loop-member-test.true w.arcs_of.ensures refl (w.has_nearer.ensures w.if-not-has_nearer.false)
      c.loop-member.invariant
  | else-member-leader-via-else-member-leader w ↦
      leader_joined c.args.graph.now c.args.cluster.now.members c.args.members.now c.args.leader c.args.row.now
      c.loop-member.member-index 0
      c.loop-member-test.true w.if-member-leader.false c.loop-member.invariant
]

pub returns : goal.returns
returns c = λ same.
    search all_joined
