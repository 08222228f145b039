use Rattle.std.proofs.Common.{◌≡◌, ◌++◌, List, ℕ, length}
use Rattle.outside.specs.Bytes.{append_known}
use Rattle.track.proofs.transfer.write_all.Given as goal

abbrev pub invariant-pieces : goal.invariant-pieces
invariant-pieces g l = record {
  sent : List ℕ;
  parts : l.text ≡ sent ++ l.rest;
  written : g.K.Sink.written l.sink ≡ append_known (g.K.Sink.written l.fn.sink) sent;
  no_fault : g.K.Sink.faults l.sink ≡ g.K.Sink.faults l.fn.sink;
}

abbrev pub decreases-pieces : goal.decreases-pieces
decreases-pieces g l = length l.rest
