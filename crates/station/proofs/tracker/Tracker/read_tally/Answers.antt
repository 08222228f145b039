use Rattle.std.proofs.Common.{rules, sym, ap, ◌∙◌, ◌≡◌}
use Rattle.station.proofs.Reading.{reads_tally}
use Rattle.station.proofs.tracker.Tracker.read_tally.Goals as goal

pub load-requires : goal.load-requires
load-requires c =
    let m = c.args.seat.now.me in
    let told = c.requires.setup in
    let e : m.0.setup ≡ c.self.inside.table.shared.key = told ∙ sym (ap (λ t. t.setup) c.self.view_is) in (
      search rules,
      search rules,
      rw (← e) (reads_tally c.same_key_means.ensures _ _ m (rw told c.tally_place-place.ensures.place) c.requires.turn),
    )

pub returns-clause-before : goal.returns-clause-before
returns-clause-before c =
    (c.load.ensures.2.1 c.args.node (rw c.requires.setup c.tally_place-place.ensures.place)).1
