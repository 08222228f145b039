use Rattle.std.proofs.Common.{◌≡◌}
use Rattle.own_stretch.specs.OwnStretch.{greatest_below, stretch_between}
use Rattle.own_stretch.specs.Tables.{bare}
use Rattle.own_stretch.proofs.stretches.own_from.Given as goal

abbrev pub invariant-loop-to : goal.invariant-loop-to
invariant-loop-to l = l.own ≡ greatest_below (stretch_between (bare l.plan) l.from) l.to
