use Rattle.std.proofs.Common.{rules}
use Rattle.make_load.proofs.workload.format_of.Goals as goal

pub returns-then-load-le-MOST_CALLS : goal.returns-then-load-le-MOST_CALLS
returns-then-load-le-MOST_CALLS c = search rules
