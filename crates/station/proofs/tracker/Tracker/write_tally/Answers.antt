use Rattle.std.proofs.Common.{rules, sym, ap, ◌∙◌, ◌≡◌}
use Rattle.station.proofs.Writing.{tallies}
use Rattle.station.proofs.tracker.Tracker.write_tally.Goals as goal

pub store-requires : goal.store-requires
store-requires c =
    let m = c.args.seat.now.me in
    let told = c.requires.setup in
    let e : m.0.setup ≡ c.self.inside.table.shared.key = told ∙ sym (ap (λ t. t.setup) c.self.view_is) in (
      search rules,
      search rules,
      rw (← e) (tallies c.cell_numbers.ensures.apart c.same_key_means.ensures _ _ m c.requires.turn
          (rw told c.tally_place-place.ensures.place) (rw told c.requires.tally)),
    )
