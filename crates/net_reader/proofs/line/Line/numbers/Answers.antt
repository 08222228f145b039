use Rattle.net_reader.proofs.Running.{run-join}
use Rattle.net_reader.proofs.line.Line.numbers.Goals as goal

pub numbers-preserved : goal.numbers-preserved
numbers-preserved c =
    run-join c.numbers.invariant c.in_ok-behind.ensures
