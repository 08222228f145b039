use Rattle.station.specs.Handsets.{IsHandsetOf}
use Rattle.station.specs.Passes.{IsFree}
use Rattle.four_threads.proofs.mover.move_on.Given as goal

abbrev pub invariant-moves : goal.invariant-moves
invariant-moves g l = record {
  free : IsFree l.fn.tracker 0 l.pass;
  own : IsHandsetOf l.fn.tracker.setup l.pass.view l.handset;
}
