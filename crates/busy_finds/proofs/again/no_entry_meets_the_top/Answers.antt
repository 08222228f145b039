use Rattle.busy_finds.proofs.NoEntry.{no-entry}
use Rattle.busy_finds.proofs.again.no_entry_meets_the_top.Goals as goal

pub returns : goal.returns
returns c = no-entry c.laws_below.ensures.marks
