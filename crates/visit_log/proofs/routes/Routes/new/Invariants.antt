use Rattle.std.proofs.Common.{◌*◌}
use Rattle.region_plan.specs.Plan.{levels_of}
use Rattle.visit_log.specs.Routes.{HaveParts}
use Rattle.visit_log.proofs.routes.Routes.new.Given as goal

abbrev pub invariant-loop-node : goal.invariant-loop-node
invariant-loop-node l = HaveParts l.plan l.routes (l.node * levels_of l.plan)
