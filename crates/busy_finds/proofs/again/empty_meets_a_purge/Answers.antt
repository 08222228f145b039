use Rattle.busy_finds.proofs.Emptied.{empty-meets}
use Rattle.busy_finds.proofs.again.empty_meets_a_purge.Goals as goal

pub returns : goal.returns
returns c = empty-meets c.laws_below.ensures
