use Rattle.std.proofs.lemmas.Grind.{common_steps}
use Rattle.std.proofs.Common.{arith}
use Rattle.json_form.proofs.report.push_parts.Goals as goal

pub parts-preserved : goal.parts-preserved
parts-preserved c = grind (arith, common_steps)

pub parts-smaller : goal.parts-smaller
parts-smaller c = grind (arith, common_steps)
