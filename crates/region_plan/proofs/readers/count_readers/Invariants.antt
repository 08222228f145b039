use Rattle.region_plan.specs.Readers.{AreCounts}
use Rattle.region_plan.proofs.readers.count_readers.Given as goal

abbrev pub invariant-loop-number : goal.invariant-loop-number
invariant-loop-number l = AreCounts l.clusters l.number l.counts
