use Rattle.std.proofs.Common.{◌≡◌}
use Rattle.entry_word.specs.Marks.{mark_in, says_here}
use Rattle.entry_word.specs.declared.visit.Key.TheVariants.{Presence}
use Rattle.directory.specs.Histories.{cell}
use Rattle.station.specs.Setup.{setting_in}
use Rattle.station.proofs.Listing.{AreBits}
use Rattle.station.proofs.tracker.Tracker.list_here.Given as goal

abbrev pub invariant-loop-sub : goal.invariant-loop-sub
invariant-loop-sub l = record {
  table : l.seat.table_id ≡ l.initial.seat.table_id;
  id : l.seat.id ≡ l.initial.seat.id;
  same : l.seat.me ≡ l.initial.seat.me;
  bits : AreBits (λ s. says_here (mark_in (cell (setting_in l.self.setup) l.initial.seat.me.0.seen
      (Presence l.node s)))) l.who l.sub;
}
