use Rattle.std.proofs.Common.{arith}
use Rattle.region_plan.specs.ReaderLaws.{readers-few}
use Rattle.visit_log.proofs.routes.count_readers.Goals as goal

pub loop-node-preserved : goal.loop-node-preserved
loop-node-preserved c = grind (arith, readers-few)
