use Rattle.busy_finds.proofs.Chased.{chased-meets}
use Rattle.busy_finds.proofs.again.chased_meets_commits.Goals as goal

pub returns : goal.returns
returns c = chased-meets c.laws_below.ensures
