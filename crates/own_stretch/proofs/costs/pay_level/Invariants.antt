use Rattle.std.proofs.Common.{◌≡◌, ◌+◌, ◌*◌, ◌^◌, ◌≤◌, drop, map}
use Rattle.own_stretch.specs.Tables.{bare, pay_all, reader_at}
use Rattle.own_stretch.proofs.costs.pay_level.Given as goal

abbrev pub invariant-loop-place : goal.invariant-loop-place
invariant-loop-place l = record {
  paid : pay_all (bare l.plan) l.node l.paid (map (reader_at l.level) (drop l.place l.readers))
      ≡ pay_all (bare l.plan) l.node l.fn.before (map (reader_at l.level) l.readers);
  passed : l.paid.passed ≤ l.level * 2 ^ 46 + l.place * 2 ^ 36;
  most : l.paid.most ≤ l.level * 2 ^ 46 + l.place * 2 ^ 36 + 2 ^ 33;
}
