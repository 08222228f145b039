use Rattle.std.proofs.Common.{arith}
use Rattle.station.proofs.Laying.{laid_lock}
use Rattle.station.proofs.opening.lay_locks.Goals as goal

pub loop-preserved : goal.loop-preserved
loop-preserved c =
    let was = c.loop.invariant in
    let laid = laid_lock c.loop.counter (omega (arith, c.loop-test.true, c.nodes-end.ensures.count))
    (omega (arith, was.1)) c.in_ok-push.ensures.items was.0 in
    (laid.0, omega (arith, laid.1, was.1))
