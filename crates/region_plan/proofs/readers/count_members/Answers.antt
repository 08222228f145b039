use Rattle.std.proofs.Common.{arith}
use Rattle.region_plan.proofs.Gathering.{none_counted, one_counted, one_skipped}
use Rattle.region_plan.proofs.readers.count_members.Goals as goal
use Rattle.region_plan.proofs.readers.count_members.Goals.{then-member-counts, else-member-counts}

pub loop-member-init : goal.loop-member-init
loop-member-init c = none_counted c.args.counts.now

pub loop-member-preserved : goal.loop-member-preserved
loop-member-preserved c = elim c.if-member-counts.branch [
  | then-member-counts w ↦
      rw w.counts-is (one_counted c.args.members.now c.args.counts.now c.loop-member.counts c.loop-member.member-index
      c.loop-member-test.true c.loop-member.invariant c.requires.ascending
      (omega (arith, w.if-member-counts.true, c.loop-member.auto.counts)))
  | else-member-counts w ↦
      rw w.counts-is (one_skipped c.args.members.now c.args.counts.now c.loop-member.counts c.loop-member.member-index
      c.loop-member-test.true c.loop-member.invariant
      (omega (arith, w.if-member-counts.false, c.loop-member.auto.counts)))
]
