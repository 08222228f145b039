use Rattle.std.proofs.Common.{arith}
use Rattle.std.proofs.lemmas.List.{append_assoc}
use Rattle.region_plan.proofs.Lists.{centres_push}
use Rattle.region_plan.proofs.clusters.push_numbers.Goals as goal

pub loop-number-preserved : goal.loop-number-preserved
loop-number-preserved c = grind (arith, append_assoc, centres_push)
