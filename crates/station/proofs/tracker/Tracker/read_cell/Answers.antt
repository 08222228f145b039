use Rattle.std.proofs.Common.{rules, sym, ap, ◌∙◌, ◌≡◌}
use Rattle.station.proofs.Reading.{reads_cell}
use Rattle.station.proofs.tracker.Tracker.read_cell.Goals as goal

pub load-requires : goal.load-requires
load-requires c =
    let m = c.args.seat.now.me in
    let told = c.requires.setup in
    let e : m.0.setup ≡ c.self.inside.table.shared.key = told ∙ sym (ap (λ t. t.setup) c.self.view_is) in (
      search rules,
      search rules,
      rw (← e) (reads_cell c.cell_numbers.ensures.apart c.same_key_means.ensures _ _ m {key = c.args.key}
          (rw told c.requires.cell) (rw told c.cell_place-place.ensures.place) (rw (← told) at c.requires.turn)),
    )
