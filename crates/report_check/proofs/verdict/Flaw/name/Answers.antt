use Rattle.std.proofs.Common.{rules}
use Rattle.report_check.proofs.verdict.Flaw.name.Goals as goal

pub returns-in-Again : goal.returns-in-Again
returns-in-Again c = search rules
