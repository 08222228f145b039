use Rattle.std.proofs.Common.{arith}
use Rattle.region_plan.specs.Plan.{levels_of, nodes_of}
use Rattle.own_stretch.specs.OwnStretch.{greatest_below, stretch_between, stretch_past}
use Rattle.own_stretch.specs.Tables.{bare}
use Rattle.own_stretch.proofs.Greatest.{greatest-more}
use Rattle.own_stretch.proofs.Same.{all-any, all-own}
use Rattle.own_stretch.proofs.stretches.own_stretches.Goals as goal

pub loop-from-preserved : goal.loop-from-preserved
loop-from-preserved c = record {
  own = greatest-more
      (λ from. greatest_below (stretch_between (bare c.args.plan.now) from) (nodes_of c.args.plan.now))
      c.loop-from.from c.loop-from.invariant.own c.own_from.ensures c.max-own.ensures;
  any = greatest-more
      (λ from. greatest_below (stretch_past (bare c.args.plan.now) from) (levels_of c.args.plan.now))
      c.loop-from.from c.loop-from.invariant.any c.any_from.ensures c.max-any.ensures;
}

pub returns-clause-own : goal.returns-clause-own
returns-clause-own c = λ starts.
    all-own c.args.plan.now starts c.loop-from.from
    (omega (arith, c.loop-from-test.false, c.loop-from.auto.from-end, c.nodes-from-end.ensures.count))
    c.loop-from.invariant.own

pub returns-clause-any : goal.returns-clause-any
returns-clause-any c = λ starts.
    all-any c.args.plan.now starts c.loop-from.from c.nodes-from-end.ensures.sound.some
    (omega (arith, c.loop-from-test.false, c.loop-from.auto.from-end, c.nodes-from-end.ensures.count))
    c.loop-from.invariant.own c.loop-from.invariant.any c.max.ensures
