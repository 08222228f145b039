use Rattle.std.proofs.Common.{arith}
use Rattle.handset.proofs.Committing.{commits-is}
use Rattle.handset.proofs.handset.Handset.commits.Goals as goal

pub returns-clause-commit : goal.returns-clause-commit
returns-clause-commit c = grind (arith, commits-is)
