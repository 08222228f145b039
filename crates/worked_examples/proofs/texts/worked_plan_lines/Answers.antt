use Rattle.std.proofs.Common.{refl}
use Rattle.std.specs.Fmt.{digits}
use Rattle.worked_examples.proofs.texts.worked_plan_lines.Goals as goal

pub returns-clause-measures : goal.returns-clause-measures
unfolding digits
returns-clause-measures c = refl

pub returns-clause-level : goal.returns-clause-level
unfolding digits
returns-clause-level c = refl

pub returns-clause-cluster : goal.returns-clause-cluster
unfolding digits
returns-clause-cluster c = refl

pub returns-clause-homes : goal.returns-clause-homes
unfolding digits
returns-clause-homes c = refl
