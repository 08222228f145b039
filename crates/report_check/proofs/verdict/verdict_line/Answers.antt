use Rattle.std.proofs.Common.{rules}
use Rattle.report_check.proofs.verdict.verdict_line.Goals as goal

pub returns : goal.returns
returns c = search rules
