use Rattle.std.proofs.lemmas.Grind.{common_steps}
use Rattle.std.proofs.Common.{arith}
use Rattle.report_check.proofs.report.read_report.Goals as goal

pub returns-in-Err-2 : goal.returns-in-Err-2
returns-in-Err-2 c = grind (arith, common_steps)
