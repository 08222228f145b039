use Rattle.std.proofs.Common.{◌≡◌, ◌+◌, ◌<◌, ◌≤◌, length}
use Rattle.net_reader.specs.Steps.{after_bytes}
use Rattle.net_reader.specs.Whole.{Rests}
use Rattle.net_reader.specs.Seen.{seen_scan, IsWell}
use Rattle.net_reader.proofs.scan.Scan.whole_lines.Given as goal

abbrev pub invariant-lines : goal.invariant-lines
invariant-lines l = record {
  rest : after_bytes (seen_scan l.self) l.rest ≡ after_bytes (seen_scan l.fn.self) l.fn.piece;
  well : IsWell l.self.fault l.self.known;
  lines : l.self.lines + length l.rest ≤ l.fn.self.lines + length l.fn.piece;
  shorter : length l.rest ≤ length l.fn.piece;
  rests : 0 < length l.rest → Rests l.self;
}

abbrev pub decreases-lines : goal.decreases-lines
decreases-lines l = length l.rest
