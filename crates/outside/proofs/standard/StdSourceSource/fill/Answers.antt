use Rattle.std.proofs.Common.{arith}
use Rattle.outside.proofs.Faults.{fault-rises}
use Rattle.outside.proofs.standard.StdSourceSource.fill.Goals as goal

pub returns-in-Err-clause-count : goal.returns-in-Err-clause-count
returns-in-Err-clause-count g c =
    fault-rises c.args.self.now.faults _ (omega arith) c.saturating_add-self.ensures

pub returns-in-Ok-clause-passes : goal.returns-in-Ok-clause-passes
returns-in-Ok-clause-passes g c = c.in-Ok.ensures.bytes.0
