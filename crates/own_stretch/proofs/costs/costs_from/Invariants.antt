use Rattle.std.proofs.Common.{◌≡◌}
use Rattle.own_stretch.specs.Tables.{AreCosts, bare, IsSmall, pay_all, readers_under, unread}
use Rattle.own_stretch.proofs.costs.costs_from.Given as goal

abbrev pub invariant-loop-level : goal.invariant-loop-level
invariant-loop-level l = record {
  costs : AreCosts l.plan l.node l.level l.costs.items;
  paid : l.paid ≡ pay_all (bare l.plan) l.node unread (readers_under (bare l.plan) l.node l.level);
  small : IsSmall l.level l.paid;
}
