use Rattle.std.proofs.Common.{rules}
use Rattle.census_text.proofs.lines.is_there.Goals as goal

pub returns-in_default : goal.returns-in_default
returns-in_default c = search rules
