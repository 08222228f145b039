use Rattle.std.proofs.Common.{rules}
use Rattle.walk.proofs.steps.from_origin.Goals as goal

pub returns-in-Coming-clause-within : goal.returns-in-Coming-clause-within
returns-in-Coming-clause-within c = c.chase_from.ensures.within c.args.from

pub returns-in-Gone-clause-pursuit : goal.returns-in-Gone-clause-pursuit
returns-in-Gone-clause-pursuit c = search rules

pub returns-in-Gone-clause-within : goal.returns-in-Gone-clause-within
returns-in-Gone-clause-within c = search rules
