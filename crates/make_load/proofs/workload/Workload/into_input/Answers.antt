use Rattle.std.proofs.Common.{rules}
use Rattle.make_load.proofs.workload.Workload.into_input.Goals as goal

pub returns : goal.returns
returns c = search rules
