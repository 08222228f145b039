use Rattle.std.proofs.Common.{◌≡◌}
use Rattle.region_plan.specs.Plan.{levels_of, nodes_of}
use Rattle.own_stretch.specs.OwnStretch.{greatest_below, stretch_between, stretch_past}
use Rattle.own_stretch.specs.Tables.{bare}
use Rattle.own_stretch.proofs.stretches.own_stretches.Given as goal

abbrev pub invariant-loop-from : goal.invariant-loop-from
invariant-loop-from l = record {
  own : l.own
      ≡ greatest_below (λ from. greatest_below (stretch_between (bare l.plan) from) (nodes_of l.plan)) l.from;
  any : l.any
      ≡ greatest_below (λ from. greatest_below (stretch_past (bare l.plan) from) (levels_of l.plan)) l.from;
}
