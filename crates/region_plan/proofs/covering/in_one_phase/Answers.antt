use Rattle.std.proofs.Common.{rules}
use Rattle.std.proofs.lemmas.List.{append_assoc, map_push}
use Rattle.region_plan.proofs.covering.in_one_phase.Goals as goal

pub loop-cluster-preserved : goal.loop-cluster-preserved
loop-cluster-preserved c = search (rules, map_push, append_assoc)
