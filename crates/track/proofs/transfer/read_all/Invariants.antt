use Rattle.std.proofs.Common.{◌≡◌, ◌+◌, ◌-◌, List, ℕ, length}
use Rattle.outside.specs.Bytes.{prepend_known}
use Rattle.net_reader.specs.Reading.{StandsFor, most_bytes}
use Rattle.track.proofs.transfer.read_all.Given as goal

abbrev pub invariant-pieces : goal.invariant-pieces
invariant-pieces g l = record {
  bytes : List ℕ;
  stands : StandsFor l.reader bytes;
  count : l.count ≡ length bytes;
  parts : g.S.Source.left l.fn.source ≡ prepend_known bytes (g.S.Source.left l.source);
  no_fault : g.S.Source.faults l.source ≡ g.S.Source.faults l.fn.source;
}

abbrev pub decreases-pieces : goal.decreases-pieces
decreases-pieces g l = (most_bytes + 1) - l.count
