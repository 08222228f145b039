use Rattle.std.proofs.Common.{arith}
use Rattle.std.proofs.lemmas.List.{take_all}
use Rattle.cluster_tree.proofs.Rounding.{near_more}
use Rattle.cluster_tree.proofs.round.farthest.Goals as goal
use Rattle.cluster_tree.proofs.round.farthest.Goals.{then-far-distance, else-far-distance}

pub loop-member-preserved : goal.loop-member-preserved
loop-member-preserved c = elim c.if-far-distance.branch [
  | then-far-distance w ↦
      near_more c.args.row.now c.args.members.now c.loop-member.member-index 0 c.loop-member.far c.if-far-distance.far
      c.loop-member-test.true (omega (arith, w.if-far-distance.true, w.far-is), omega (arith, w.far-is))
      c.loop-member.invariant
  | else-far-distance w ↦
      near_more c.args.row.now c.args.members.now c.loop-member.member-index 0 c.loop-member.far c.if-far-distance.far
      c.loop-member-test.true (omega (arith, w.far-is), omega (arith, w.if-far-distance.false, w.far-is))
      c.loop-member.invariant
]

pub returns : goal.returns
returns c = grind (arith, take_all)
