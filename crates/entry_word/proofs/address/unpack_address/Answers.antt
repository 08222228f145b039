use Rattle.std.proofs.Common.{rules}
use Rattle.entry_word.proofs.address.unpack_address.Goals as goal

pub returns-in-1 : goal.returns-in-1
returns-in-1 c = search rules
