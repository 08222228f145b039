use Rattle.std.proofs.Common.{refl}
use Rattle.std.specs.Fmt.{digits}
use Rattle.report_text.specs.PlanText.{clusters_text, levels_text}
use Rattle.worked_examples.proofs.texts.worked_plan_text.Goals as goal

pub returns : goal.returns
unfolding digits clusters_text levels_text
returns c = refl
