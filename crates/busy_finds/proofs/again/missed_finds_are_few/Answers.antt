use Rattle.busy_finds.proofs.Missed.{missed-few}
use Rattle.busy_finds.proofs.again.missed_finds_are_few.Goals as goal

pub returns : goal.returns
returns c = missed-few c.laws_below.ensures.marks c.empty_meets_a_purge.ensures c.no_entry_meets_the_top.ensures
