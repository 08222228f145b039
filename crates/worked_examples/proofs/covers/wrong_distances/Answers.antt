use Rattle.std.proofs.Common.{arith}
use Rattle.worked_examples.proofs.covers.wrong_distances.Goals as goal

pub returns : goal.returns
returns c = λ table metric more same.
    omega (arith, metric.positive 0 1 (omega (arith, more)) more (λ one. omega (arith, one)), same)
