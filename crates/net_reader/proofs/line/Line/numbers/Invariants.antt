use Rattle.std.proofs.Common.{length}
use Rattle.net_reader.specs.Steps.{IsRun}
use Rattle.net_reader.specs.Seen.{seen_line}
use Rattle.net_reader.proofs.line.Line.numbers.Given as goal

abbrev pub invariant-numbers : goal.invariant-numbers
invariant-numbers l = IsRun (seen_line l.fn.self) (seen_line l.self) l.fn.piece l.rest

abbrev pub decreases-numbers : goal.decreases-numbers
decreases-numbers l = length l.rest
