use Rattle.std.proofs.Common.{length}
use Rattle.net_reader.specs.Steps.{IsRun}
use Rattle.net_reader.specs.Seen.{seen_line}
use Rattle.net_reader.proofs.line.Line.run.Given as goal

abbrev pub invariant-bytes : goal.invariant-bytes
invariant-bytes l = IsRun (seen_line l.fn.self) (seen_line l.self) l.fn.piece l.rest

abbrev pub decreases-bytes : goal.decreases-bytes
decreases-bytes l = length l.rest
