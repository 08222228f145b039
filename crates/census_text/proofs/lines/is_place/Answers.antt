use Rattle.std.proofs.Common.{rules}
use Rattle.census_text.proofs.lines.is_place.Goals as goal

pub returns-in-None : goal.returns-in-None
returns-in-None c = search rules
