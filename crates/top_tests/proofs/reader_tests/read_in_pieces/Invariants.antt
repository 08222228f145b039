use Rattle.std.proofs.Common.{◌≡◌, ◌++◌, List, ℕ, length}
use Rattle.net_reader.specs.Reading.{StandsFor}
use Rattle.top_tests.proofs.reader_tests.read_in_pieces.Given as goal

abbrev pub invariant-pieces : goal.invariant-pieces
invariant-pieces l = record {
  front : List ℕ;
  parts : l.text ≡ front ++ l.rest;
  stands : StandsFor l.reader front;
}

abbrev pub decreases-pieces : goal.decreases-pieces
decreases-pieces l = length l.rest
