use Rattle.std.proofs.Common.{rules}
use Rattle.visit_log.proofs.numbers.key_node.Goals as goal

pub returns-in-Entry : goal.returns-in-Entry
returns-in-Entry c = search rules
