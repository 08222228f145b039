use Rattle.std.proofs.lemmas.Grind.{common_steps}
use Rattle.std.proofs.Common.{arith}
use Rattle.report_text.proofs.plan.write_members.Goals as goal

pub returns : goal.returns
returns c = grind (arith, common_steps)

pub returns-then-count-rest : goal.returns-then-count-rest
returns-then-count-rest c = grind (arith, common_steps)
