use Rattle.std.proofs.Common.{take}
use Rattle.region_plan.specs.Readers.{AreWritten, IsCounted}
use Rattle.region_plan.proofs.readers.fill_cluster.Given as goal

abbrev pub invariant-loop-place : goal.invariant-loop-place
invariant-loop-place l = record {
  counted : IsCounted (take l.place l.members) l.fn.taken l.taken;
  filled : AreWritten l.clusters l.starts l.taken l.readers l.weights;
}
