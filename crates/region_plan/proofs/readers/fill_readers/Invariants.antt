use Rattle.region_plan.specs.Readers.{AreCounts, AreWritten}
use Rattle.region_plan.proofs.readers.fill_readers.Given as goal

abbrev pub invariant-loop-number : goal.invariant-loop-number
invariant-loop-number l = record {
  counts : AreCounts l.clusters l.number l.taken;
  filled : AreWritten l.clusters l.starts l.taken l.readers l.weights;
}
