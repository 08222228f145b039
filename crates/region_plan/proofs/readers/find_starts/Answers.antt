use Rattle.std.proofs.Common.{length, arith}
use Rattle.std.proofs.lemmas.Result.{IfOk-weaker}
use Rattle.region_plan.proofs.Gathering.{counts_few, room_made}
use Rattle.region_plan.proofs.readers.find_starts.Goals as goal

pub sum_counts-requires-clause-small : goal.sum_counts-requires-clause-small
sum_counts-requires-clause-small c =
    counts_few c.args.clusters.now (length c.args.clusters.now) 1024 c.count_readers.new.counts
    c.count_readers.ensures (omega (arith, c.requires.nodes, c.requires.clusters))

pub returns : goal.returns
returns c = grind (arith, room_made, IfOk-weaker)
