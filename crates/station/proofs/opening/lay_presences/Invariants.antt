use Rattle.std.proofs.Common.{◌≡◌, ◌+◌, ◌*◌, length}
use Rattle.region_plan.specs.Plan.{nodes_of}
use Rattle.station.specs.Opening.{AreLaid, setup_of}
use Rattle.station.proofs.opening.lay_presences.Given as goal

abbrev pub invariant-loop-node : goal.invariant-loop-node
invariant-loop-node l =
    AreLaid (setup_of l.plan l.homes 0) l.words.items ×
    (length l.words.items ≡ 1 + 2 * nodes_of l.plan + l.node * length l.homes)

abbrev pub invariant-loop-sub : goal.invariant-loop-sub
invariant-loop-sub l =
    AreLaid (setup_of l.plan l.homes 0) l.words.items × (length l.words.items ≡ 1 + 2 * nodes_of l.plan +
    (l.node * length l.homes + l.sub))
