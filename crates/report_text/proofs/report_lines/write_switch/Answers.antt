use Rattle.std.proofs.lemmas.Grind.{common_steps}
use Rattle.std.proofs.Common.{arith}
use Rattle.report_text.proofs.report_lines.write_switch.Goals as goal

pub returns : goal.returns
returns c = grind (arith, common_steps)
