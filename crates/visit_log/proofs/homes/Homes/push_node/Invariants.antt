use Rattle.std.proofs.Common.{◌+◌, ◌*◌}
use Rattle.region_plan.specs.Plan.{levels_of}
use Rattle.visit_log.specs.Homes.{HaveHomes}
use Rattle.visit_log.proofs.homes.Homes.push_node.Given as goal

abbrev pub invariant-loop-level : goal.invariant-loop-level
invariant-loop-level l =
    HaveHomes l.plan (record { levels = l.self-inside.levels; places = l.self-inside.places.items })
    (l.node * levels_of l.plan + l.level)
