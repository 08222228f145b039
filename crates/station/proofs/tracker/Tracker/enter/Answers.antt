use Rattle.std.proofs.Common.{arith}
use Rattle.station.proofs.tracker.Tracker.enter.Goals as goal

pub returns : goal.returns
returns c =
    let t = c.in_ok-turn.ensures in
    let p = c.pass.view_is in
    record {
      stay = grind arith;
    }
