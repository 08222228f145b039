use Rattle.std.proofs.Common.{rules, arith, ◌≡◌}
use Rattle.station.proofs.Reading.{witnesses}
use Rattle.station.proofs.tracker.Tracker.witness.Goals as goal

pub load-requires : goal.load-requires
load-requires c =
    let m = c.pass.inside.seat.me in
    let one = c.pass.view_is in let two = c.self.view_is in
    let e : m.0.setup ≡ c.self.inside.table.shared.key = search rules in
    (search rules, omega (arith, c.self.invariant.words), rw (← e) (witnesses _ _ _ m))
