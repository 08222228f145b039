use Rattle.std.proofs.Common.{◌≡◌, ◌++◌, List, ℕ}
use Rattle.track.specs.Transfer.{IsOnItsWay}
use Rattle.track.proofs.writing.pass_pieces.Given as goal

abbrev pub invariant-pieces : goal.invariant-pieces
invariant-pieces g l = record {
  text : List ℕ;
  on : IsOnItsWay (g.K.Sink.written l.fn.sink) (g.K.Sink.written l.sink) text l.outlet;
  parts : g.P.Pieces.left l.fn.pieces ≡ text ++ g.P.Pieces.left l.pieces;
  no_fault : g.K.Sink.faults l.sink ≡ g.K.Sink.faults l.fn.sink;
}

abbrev pub decreases-pieces : goal.decreases-pieces
decreases-pieces g l = g.P.Pieces.size l.pieces
