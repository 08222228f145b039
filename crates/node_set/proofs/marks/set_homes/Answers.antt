use Rattle.std.proofs.Common.{arith}
use Rattle.node_set.proofs.Leading.{homes_end, homes_more}
use Rattle.node_set.proofs.marks.set_homes.Goals as goal

pub ball-preserved : goal.ball-preserved
ball-preserved c = homes_more c.args.number c.args.home.now c.ball.home c.in-Some.ensures.some
    (omega (arith, c.in-Some.ensures.below, c.requires, c.ball.auto.home)) c.ball.invariant.done c.ball.invariant.left

pub returns : goal.returns
returns c = λ x below.
    grind (arith, homes_end)
