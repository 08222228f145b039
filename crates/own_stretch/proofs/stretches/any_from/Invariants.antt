use Rattle.std.proofs.Common.{◌≡◌}
use Rattle.own_stretch.specs.OwnStretch.{greatest_below, stretch_past}
use Rattle.own_stretch.specs.Tables.{bare}
use Rattle.own_stretch.proofs.stretches.any_from.Given as goal

abbrev pub invariant-loop-level : goal.invariant-loop-level
invariant-loop-level l = l.any ≡ greatest_below (stretch_past (bare l.plan) l.from) l.level
