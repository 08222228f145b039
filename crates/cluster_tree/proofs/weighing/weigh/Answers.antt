use Rattle.std.proofs.lemmas.Grind.{common_steps}
use Rattle.std.proofs.Common.{arith, ◌∙◌, sym}
use Rattle.cluster_tree.proofs.Gathering.{member_taken, other_skipped}
use Rattle.cluster_tree.proofs.weighing.weigh.Goals as goal
use Rattle.cluster_tree.proofs.weighing.weigh.Goals.{then-has+in-Some+in_ok-push_member, else-has}

pub loop-v-preserved : goal.loop-v-preserved
loop-v-preserved c = elim c.if-has.branch [
  | then-has+in-Some+in_ok-push_member w ↦
      rw w.weighed-is
      (member_taken c.loop-v.v w.in-Some.weight c.args.members.now.members c.args.weights.now c.loop-v.weighed
      w.push_member.new.weighed
      (sym c.has.ensures ∙ w.if-has.true) w.in-Some.is w.in_ok-push_member.ensures.nodes
      w.in_ok-push_member.ensures.weights
      c.loop-v.invariant)
  | else-has w ↦
      rw w.weighed-is
      (other_skipped c.loop-v.v c.args.members.now.members c.args.weights.now c.loop-v.weighed
      (sym c.has.ensures ∙ w.if-has.false) c.loop-v.invariant)
]

pub has-requires : goal.has-requires
has-requires c = grind (arith, common_steps)

pub loop-v-init : goal.loop-v-init
loop-v-init c = grind (arith, common_steps)

pub loop-v-smaller : goal.loop-v-smaller
loop-v-smaller c = grind (arith, common_steps)

pub returns-in_default : goal.returns-in_default
returns-in_default c = grind (arith, common_steps)

pub returns-in_err-push_member : goal.returns-in_err-push_member
returns-in_err-push_member c = grind (arith, common_steps)
