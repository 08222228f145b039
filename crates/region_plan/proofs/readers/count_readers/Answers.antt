use Rattle.std.proofs.Common.{arith}
use Rattle.region_plan.proofs.Gathering.{cluster_counted, counts_few}
use Rattle.region_plan.proofs.readers.count_readers.Goals as goal

pub count_members-requires-clause-ascending : goal.count_members-requires-clause-ascending
count_members-requires-clause-ascending c = rw c.nodes.ensures.members c.nodes.ensures.ascending

pub count_members-requires-clause-small : goal.count_members-requires-clause-small
count_members-requires-clause-small c =
    counts_few c.args.clusters.now c.loop-number.number 1024 c.loop-number.counts c.loop-number.invariant
    (omega (arith, c.requires.few, c.loop-number-test.true))

pub loop-number-preserved : goal.loop-number-preserved
loop-number-preserved c =
    cluster_counted c.args.clusters.now c.loop-number.number c.nodes.ensures.members c.loop-number.invariant
    c.count_members.ensures
