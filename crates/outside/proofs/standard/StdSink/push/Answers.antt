use Rattle.std.proofs.Common.{rules}
use Rattle.outside.proofs.standard.StdSink.push.Goals as goal

pub returns-clause-passes : goal.returns-clause-passes
returns-clause-passes c = search rules
