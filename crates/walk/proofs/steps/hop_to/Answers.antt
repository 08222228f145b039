use Rattle.std.proofs.Common.{rules}
use Rattle.walk.proofs.steps.hop_to.Goals as goal

pub returns-clause-pursuit : goal.returns-clause-pursuit
returns-clause-pursuit c = search rules

pub returns-clause-within : goal.returns-clause-within
returns-clause-within c = search rules
