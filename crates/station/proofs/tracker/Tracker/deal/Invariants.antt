use Rattle.std.proofs.Common.{◌≡◌, ◌≤◌, [], length}
use Rattle.std.specs.Vec.{vec_capacity}
use Rattle.station.specs.Passes.{AreFresh}
use Rattle.station.proofs.Fresh.{rest_view}
use Rattle.station.proofs.tracker.Tracker.deal.Given as goal

abbrev pub invariant-loop-actor : goal.invariant-loop-actor
invariant-loop-actor l = record {
  table : l.seat.table_id ≡ l.self.table;
  view : l.seat.me ≡ (rest_view l.self.setup l.actor, []);
  fresh : AreFresh l.self l.passes.items;
  count : length l.passes.items ≡ l.actor;
  room : l.self.setup.actors ≤ vec_capacity l.passes;
}
