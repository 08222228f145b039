use Rattle.std.proofs.Common.{inr, [], refl}
use Rattle.net_reader.specs.Steps.{after_bytes}
use Rattle.net_reader.proofs.reader.Reader.new.Goals as goal

pub invariant_of-result : goal.invariant_of-result
unfolding after_bytes
invariant_of-result c = inr ([], c.in_ok-new.ensures.well, c.in_ok-new.ensures.fresh)

pub returns : goal.returns
unfolding after_bytes
returns c = record { going = refl; read = c.in_ok-new.ensures.fresh }
