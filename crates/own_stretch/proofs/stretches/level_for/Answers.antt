use Rattle.std.proofs.Common.{arith}
use Rattle.own_stretch.proofs.Climbing.{at-top, next-level, near-level}
use Rattle.own_stretch.proofs.stretches.level_for.Goals as goal

pub returns-then-distance-radius : goal.returns-then-distance-radius
returns-then-distance-radius c =
    near-level c.args.distance c.loop-level.level c.args.top c.loop-level.invariant c.loop-level-test.true
    (omega (arith, c.if-distance-radius.true, c.radius.ensures))

pub loop-level-preserved : goal.loop-level-preserved
loop-level-preserved c =
    next-level c.args.distance c.loop-level.level c.args.top c.loop-level.invariant c.loop-level-test.true
    (omega (arith, c.if-distance-radius.false, c.radius.ensures))

pub returns : goal.returns
returns c =
    at-top c.args.distance c.loop-level.level c.args.top c.loop-level.invariant
    (omega (arith, c.loop-level-test.false, c.loop-level.auto.level-end))
