use Rattle.std.proofs.Common.{◌*◌}
use Rattle.region_plan.specs.Plan.{levels_of}
use Rattle.visit_log.specs.Homes.{HaveHomes}
use Rattle.visit_log.proofs.homes.Homes.new.Given as goal

abbrev pub invariant-loop-node : goal.invariant-loop-node
invariant-loop-node l = HaveHomes l.plan l.homes (l.node * levels_of l.plan)
