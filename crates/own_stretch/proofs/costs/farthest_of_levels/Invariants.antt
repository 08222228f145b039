use Rattle.std.proofs.Common.{map}
use Rattle.own_stretch.specs.Tables.{AreAllFarthest}
use Rattle.own_stretch.proofs.costs.farthest_of_levels.Given as goal

abbrev pub invariant-loop-level : goal.invariant-loop-level
invariant-loop-level l = AreAllFarthest l.plan l.level (map (λ far. far.items) l.lists.items)
