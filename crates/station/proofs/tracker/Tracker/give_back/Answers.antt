use Rattle.std.proofs.Common.{rules}
use Rattle.station.proofs.Turning.{leaves}
use Rattle.station.proofs.tracker.Tracker.give_back.Goals as goal

pub store-requires : goal.store-requires
store-requires c =
    let m = c.args.seat.now.me in
    let setup = c.self.inside.table.shared.key in (
      search rules,
      search rules,
      rw c.lock_place-place.ensures.place
          (leaves c.cell_numbers.ensures.apart setup _ _ m c.requires.inside c.requires.unwritten c.requires.clear),
    )
