use Rattle.std.proofs.Common.{rules}
use Rattle.entry_word.proofs.parts.node_part.Goals as goal

pub returns : goal.returns
returns c = search rules
