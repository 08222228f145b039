use Rattle.std.proofs.Common.{rules}
use Rattle.distances.proofs.Chunks.{span_chunk, span_more}
use Rattle.distances.proofs.weights.lower_span.Goals as goal

pub loop-i-preserved : goal.loop-i-preserved
loop-i-preserved c = search (rules, span_chunk)

pub loop-x-preserved : goal.loop-x-preserved
loop-x-preserved c = search (rules, span_more)
