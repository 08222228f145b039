use Rattle.std.proofs.Common.{rules}
use Rattle.text_line.proofs.order.count_on_line.Goals as goal

pub returns-clause-most : goal.returns-clause-most
returns-clause-most c = search rules
