use Rattle.std.proofs.Common.{arith}
use Rattle.own_stretch.specs.Tables.{bare}
use Rattle.own_stretch.proofs.Paying.{cost-is, costs-more, pay-more}
use Rattle.own_stretch.proofs.costs.costs_from.Goals as goal

pub loop-level-preserved : goal.loop-level-preserved
loop-level-preserved c =
    let paid = pay-more (bare c.args.plan.now) c.args.node c.loop-level.level c.loop-level.invariant.paid
    c.pay_level-paid.ensures.paid in
    record {
      costs = rw c.in_ok-push.ensures.items (costs-more c.args.plan.now c.args.node c.loop-level.level
          c.loop-level.costs.items c.loop-level.invariant.costs
          (omega (arith, c.max.ensures, cost-is (bare c.args.plan.now) c.args.node c.loop-level.level paid))
          (omega (
            arith,
            c.max.ensures,
            c.pay_level-paid.ensures.small.passed,
            c.pay_level-paid.ensures.small.most,
            c.loop-level-test.true,
            c.levels-level-end.ensures,
            c.plan_is_sound.ensures.sound.few,
          )));
      paid = paid;
      small = c.pay_level-paid.ensures.small;
    }
