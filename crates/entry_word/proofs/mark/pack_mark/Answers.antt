use Rattle.std.proofs.Common.{rules}
use Rattle.entry_word.proofs.mark.pack_mark.Goals as goal

pub returns-in-Gone : goal.returns-in-Gone
returns-in-Gone c = search rules
