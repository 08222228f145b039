use Rattle.std.proofs.Common.{◌*◌}
use Rattle.distances.specs.Lowering.{IsLowered, SpanOffer}
use Rattle.distances.proofs.weights.lower_span.Given as goal

abbrev pub invariant-loop-i : goal.invariant-loop-i
invariant-loop-i l = IsLowered (SpanOffer (l.i * 16) l.place l.row l.from l.by) l.fn.weights l.weights

abbrev pub invariant-loop-x : goal.invariant-loop-x
invariant-loop-x l = IsLowered (SpanOffer l.x l.place l.row l.from l.by) l.fn.weights l.weights
