use Rattle.std.proofs.Common.{rules}
use Rattle.report_text.proofs.sums.Sums.add.Goals as goal

pub returns-in-Again-clause-finds : goal.returns-in-Again-clause-finds
returns-in-Again-clause-finds c = search rules

pub returns-in-Again-clause-again : goal.returns-in-Again-clause-again
returns-in-Again-clause-again c = search rules
