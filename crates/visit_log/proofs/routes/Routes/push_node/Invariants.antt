use Rattle.std.proofs.Common.{◌+◌, ◌*◌}
use Rattle.region_plan.specs.Plan.{levels_of}
use Rattle.visit_log.specs.Routes.{HaveParts}
use Rattle.visit_log.proofs.routes.Routes.push_node.Given as goal

abbrev pub invariant-loop-level : goal.invariant-loop-level
invariant-loop-level l = HaveParts l.plan l.self (l.node * levels_of l.plan + l.level)
