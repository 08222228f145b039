use Rattle.std.proofs.Common.{◌≡◌, ◌+◌, ◌*◌, length}
use Rattle.region_plan.specs.Plan.{nodes_of}
use Rattle.visit_log.specs.Numbers.{clusters_below}
use Rattle.station.specs.Opening.{AreLaid, setup_of}
use Rattle.station.proofs.opening.lay_level.Given as goal

abbrev pub invariant-loop-cluster : goal.invariant-loop-cluster
invariant-loop-cluster l =
    AreLaid (setup_of l.plan l.homes 0) l.words.items
    × (length l.words.items ≡ 1 + 2 * nodes_of l.plan + (nodes_of l.plan +
    (clusters_below l.plan l.level + l.cluster)) * length l.homes)

abbrev pub invariant-loop-sub : goal.invariant-loop-sub
invariant-loop-sub l =
    AreLaid (setup_of l.plan l.homes 0) l.words.items
    × (length l.words.items ≡ 1 + 2 * nodes_of l.plan + ((nodes_of l.plan +
    (clusters_below l.plan l.level + l.cluster)) * length l.homes + l.sub))
