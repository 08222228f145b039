use Rattle.std.proofs.Common.{rules, arith, ap, ◌≡◌, ◌≤◌, ◌^◌, length}
use Rattle.station.specs.Setup.{setting_in}
use Rattle.station.proofs.Joining.{hears, learns, longer_long}
use Rattle.station.proofs.tracker.Tracker.learn.Goals as goal

pub join_seat-requires : goal.join_seat-requires
join_seat-requires c = grind (arith, hears)

pub load-requires : goal.load-requires
load-requires c =
    let m = c.join_seat.new.seat.me in
    let old = c.args.seat.now.me.0 in
    let note = c.args.other.me.0 in
    let two = c.self.view_is in
    let joined = c.join_seat.ensures.2 in
    let e : m.0.setup ≡ c.self.inside.table.shared.key = grind arith in
    let few : (setting_in m.0.setup).nodes ≤ 2 ^ 16 = grind arith in
    let long = longer_long old.seen note.seen in (
      search rules,
      omega (arith, c.self.invariant.words),
      rw (← e) (learns c.front_of_history_is_legal.ensures _ _ 0 m few
          (omega (arith, long, ap (λ q. length q.0.told) joined, ap (λ q. length q.0.seen) joined))
          (omega (arith, long, ap (λ q. length q.0.had) joined, ap (λ q. length q.0.seen) joined))),
    )
