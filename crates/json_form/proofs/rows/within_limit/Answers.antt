use Rattle.std.proofs.Common.{rules}
use Rattle.json_form.proofs.rows.within_limit.Goals as goal

pub returns-then-number-le-MOST_NUMBER : goal.returns-then-number-le-MOST_NUMBER
returns-then-number-le-MOST_NUMBER c = search rules
